-- What comes of the inputs of terminals' decks.
use Rattle.std.specs.Prelude.{◌≡◌, ℕ, zero, suc, List, [], ◌∷◌, ⊤, Result, IfOk, IfErr}
use Rattle.money.specs.declared.refusal.Refusal.{Refusal}
use Rattle.tables.specs.Database.{Database}
use Rattle.cells.specs.Records.{ReaderView}
use Rattle.book.specs.Book.{BookView}
use Rattle.book.specs.Done.{Done}
use Rattle.terminals_deck.specs.Deck.{DeckView}
use Rattle.terminals.specs.Terminal.{IsEntered, IsTurned}
use Rattle.terminals.specs.Tries.{AreTries, EndsAnInput, TellsMissing}
use Rattle.run_threads.specs.Tally.{nothing_done, with_outcome}
use Rattle.run_threads.specs.declared.tally.Tally.{Tally}

-- a deck's next input came to this: it was tried so often, and a sound book has entered it, of this number, or it was
-- refused; and the deck stands behind it
pub record CameOfInput (past : ℕ) (t0 : Database) (old new : DeckView) (result : Result ℕ Refusal) : Type 0 where
  pub turned : IsTurned old new
  pub entered : IfOk result (λ number. (book : BookView) × (terminal : ℕ) × (done : Done)
      × IsEntered past t0 book old.next terminal done × (done.number ≡ number))
  pub cause : IfErr result EndsAnInput
  pub missing : TellsMissing t0 old.next result
  pub tries : (before : ReaderView) × (after : ReaderView) × (tries : ℕ)
      × AreTries past t0 old.next before after tries result

-- so much came of so many inputs of a deck, one after another, and it stands behind them
unfoldable pub CameOfInputs : ℕ → Database → DeckView → ℕ → Tally → DeckView → Type 0
CameOfInputs past t0 old zero tally new = (tally ≡ nothing_done) × (new ≡ old)
CameOfInputs past t0 old (suc inputs) tally new = (before : Tally) × (between : DeckView) × (result : Result ℕ Refusal)
    × CameOfInputs past t0 old inputs before between × CameOfInput past t0 between new result
    × (tally ≡ with_outcome result before)

-- and so of each of these decks
abbrev pub HaveRun : ℕ → Database → ℕ → List DeckView → List Tally → List DeckView → Type 0
HaveRun past t0 inputs [] [] [] = ⊤
HaveRun past t0 inputs (old ∷ olds) (tally ∷ tallies) (new ∷ news) =
    CameOfInputs past t0 old inputs tally new × HaveRun past t0 inputs olds tallies news
HaveRun past t0 inputs _ _ _ = ⊥
