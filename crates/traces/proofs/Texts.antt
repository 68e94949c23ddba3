-- The texts of a logger's stream.
use Rattle.std.proofs.Common.{◌≡◌, ◌≢◌, ℕ, ◌%◌, ◌<◌, ◌==◌, Bool, cond, List, [], ◌∷◌, ◌++◌, Global, get_or, length, map, sym, ap, ◌∙◌, subst}
use Rattle.std.proofs.Common.{append-nil, ⊎_elim}
use Rattle.std.specs.Prelude.{flat_map}
use Rattle.std.specs.Arc.{arc_value}
use Rattle.std.specs.declared.sync.Arc.{Arc}
use Rattle.std.specs.List.{All}
use Rattle.std.proofs.lemmas.Bool.Decides.{eqb_tells}
use Rattle.std.proofs.lemmas.Grind.{flat_map-append}
use Rattle.std.proofs.lemmas.List.{map-append, length-map, get_or-map}
use Rattle.std.proofs.lemmas.List.Elements.{filter-append}
use Rattle.tables.specs.Sizes.{Sizes}
use Rattle.log_text.specs.Entries.{entry_text}
use Rattle.book.specs.Loggable.{IsLoggable}
use Rattle.book.specs.Streams.{stream}
use Rattle.book.specs.declared.entry.Entry.{Entry}
use Rattle.log_entries.specs.Logged.{logged_entry}

-- of one entry that is of the stream, and of one that isn't
pub own_text : (s : Sizes) (loggers logger : ℕ) (e : Entry) → e.terminal % loggers ≡ logger
    → flat_map entry_text (map (logged_entry s) (stream loggers logger (e ∷ []))) ≡ entry_text (logged_entry s e)
own_text s loggers logger e own = ⊎_elim
    (λ yes. ap (λ (b : Bool). flat_map entry_text (map (logged_entry s) (cond b (e ∷ []) []))) yes.0 ∙ append-nil (entry_text (logged_entry s e)))
    (λ no. absurd (no.1 own))
    (eqb_tells (e.terminal % loggers) logger)

pub other_text : (s : Sizes) (loggers logger : ℕ) (e : Entry) → e.terminal % loggers ≢ logger
    → flat_map entry_text (map (logged_entry s) (stream loggers logger (e ∷ []))) ≡ []
other_text s loggers logger e other = ⊎_elim
    (λ yes. absurd (other yes.1))
    (λ no. ap (λ (b : Bool). flat_map entry_text (map (logged_entry s) (cond b (e ∷ []) []))) no.0)
    (eqb_tells (e.terminal % loggers) logger)

-- of one, and of those behind it
pub next_text : (s : Sizes) (loggers logger : ℕ) (e : Entry) (es : List Entry)
    → flat_map entry_text (map (logged_entry s) (stream loggers logger (e ∷ es)))
    ≡ flat_map entry_text (map (logged_entry s) (stream loggers logger (e ∷ []))) ++ flat_map entry_text (map (logged_entry s) (stream loggers logger es))
next_text s loggers logger e es =
    ap (λ (l : List Entry). flat_map entry_text (map (logged_entry s) l)) (filter-append (λ (d : Entry). d.terminal % loggers == logger) (e ∷ []) es)
    ∙ ap (flat_map entry_text) (map-append (logged_entry s) (stream loggers logger (e ∷ [])) (stream loggers logger es))
    ∙ flat_map-append entry_text (map (logged_entry s) (stream loggers logger (e ∷ []))) (map (logged_entry s) (stream loggers logger es))

-- what holds of all holds of each
pub loggable_there : (s : Sizes) (xs : List (Arc Entry Global)) → All (IsLoggable s) (map arc_value xs) → (i : ℕ) (x : Arc Entry Global)
    → i < length xs → x ≡ get_or xs i x → (e : Entry) → e ≡ arc_value x → IsLoggable s e
loggable_there s xs all i x lt is e e_is =
    let at = get_or-map arc_value xs i x (arc_value x) lt ∙ ap arc_value (sym is) in
    subst (IsLoggable s) (at ∙ sym e_is) (all i (arc_value x) (subst (λ (n : ℕ). i < n) (sym (length-map xs arc_value)) lt))
