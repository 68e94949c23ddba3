-- The constants of the skewed draws.
use Rattle.terminals_deck.specs.declared.settings.Settings.{Settings}

-- C of NURand where no other is chosen (TPC-C 2.1.6)
abbrev pub usual_settings : Settings
usual_settings = record { last_name = 100; customer = 500; item = 4000 }
