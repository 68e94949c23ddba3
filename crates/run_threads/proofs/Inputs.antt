-- What comes of terminals' inputs.
use Rattle.std.proofs.Common.{◌≡◌, ℕ, zero, suc, ◌+◌, ◌<◌, ◌≤◌, List, [], ◌∷◌, ◌++◌, length, map, reverse, take, drop, get_or, Result, Ok, Err}
use Rattle.std.proofs.Common.{IfOk, refl, sym, ap, subst, ◌∙◌, add-one, arith}
use Rattle.std.proofs.lemmas.List.{append-nil, append_assoc, map-append, reverse-append, reverse-reverse, take_all}
use Rattle.money.specs.declared.refusal.Refusal.{Refusal}
use Rattle.tables.specs.Database.{Database}
use Rattle.terminals_deck.specs.Deck.{DeckView}
use Rattle.terminals.specs.Terminal.{HasCommitted, IsTurned, TerminalView}
use Rattle.terminals.specs.Tries.{AreTries, TellsMissing}
use Rattle.terminals.proofs.Ending.{tries_end}
use Rattle.run_threads.specs.Inputs.{CameOfInput, CameOfInputs, HaveRun}
use Rattle.run_threads.specs.Tally.{nothing_done, with_outcome}
use Rattle.run_threads.specs.declared.tally.Tally.{Tally}

-- what `Terminal::one` says of an input
pub came_of_one : (past : ℕ) (t0 : Database) (old new : TerminalView) (result : Result ℕ Refusal) (tries : ℕ)
    → IsTurned old.deck new.deck → IfOk result (HasCommitted past t0 old.deck.next old new)
    → TellsMissing t0 old.deck.next result → AreTries past t0 old.deck.next old.reader new.reader tries result
    → CameOfInput past t0 old.deck new.deck result
came_of_one past t0 old new (Ok number) tries turned committed missing are = record {
  turned = turned;
  entered = (committed.book, old.share.terminal, committed.done, committed.entered, committed.numbered);
  cause = tt;
  missing = missing;
  tries = (old.reader, new.reader, tries, are);
}
came_of_one past t0 old new (Err refusal) tries turned committed missing are = record {
  turned = turned;
  entered = tt;
  cause = tries_end past t0 old.deck.next old.reader new.reader tries (Err refusal) are;
  missing = missing;
  tries = (old.reader, new.reader, tries, are);
}

-- before the first input, and behind one more
pub came_of_none : (past : ℕ) (t0 : Database) (deck : DeckView) (tally : Tally) → tally ≡ nothing_done
    → CameOfInputs past t0 deck 0 tally deck
unfolding CameOfInputs
came_of_none past t0 deck tally is = (is, refl)

pub came_of_more : (past : ℕ) (t0 : Database) (old between turned new : DeckView) (inputs : ℕ) (before after : Tally)
    (result : Result ℕ Refusal) → CameOfInputs past t0 old inputs before between → CameOfInput past t0 between turned result
    → new ≡ turned → after ≡ with_outcome result before → CameOfInputs past t0 old (inputs + 1) after new
unfolding CameOfInputs
came_of_more past t0 old between turned new inputs before after result came input same counted =
    rw add-one (before, between, result, came, subst (λ (deck : DeckView). CameOfInput past t0 between deck result) (sym same) input, counted)

-- of each terminal, by its place
pub have_run : {W : Type 0} (past : ℕ) (t0 : Database) (inputs : ℕ) (deck : W → DeckView) (tally : W → Tally) (old new : List W)
    → length new ≡ length old
    → ((k : ℕ) (w : W) → k < length old
    → CameOfInputs past t0 (deck (get_or old k w)) inputs (tally (get_or new k w)) (deck (get_or new k w)))
    → HaveRun past t0 inputs (map deck old) (map tally new) (map deck new)
have_run past t0 inputs deck tally [] [] count each = tt
have_run past t0 inputs deck tally [] (v ∷ new) count each = absurd (omega (arith, count))
have_run past t0 inputs deck tally (w ∷ old) [] count each = absurd (omega (arith, count))
have_run past t0 inputs deck tally (w ∷ old) (v ∷ new) count each = (
  each 0 w (omega arith),
  have_run past t0 inputs deck tally old new (omega (arith, count)) (λ k u within. each (suc k) u (omega (arith, within))),
)

-- and so by equal counts and decks
pub have_run_as : (past : ℕ) (t0 : Database) (inputs : ℕ) (olds : List DeckView) (tallies counted : List Tally) (news left : List DeckView)
    → counted ≡ tallies → left ≡ news → HaveRun past t0 inputs olds tallies news → HaveRun past t0 inputs olds counted left
have_run_as past t0 inputs olds tallies counted news left same_tallies same_decks ran =
    subst (λ (decks : List DeckView). HaveRun past t0 inputs olds counted decks) (sym same_decks)
    (subst (λ (some : List Tally). HaveRun past t0 inputs olds some news) (sym same_tallies) ran)

-- terminals are staffed from the last station of a reversed list on
pub none_staffed : {W S : Type 0} (f : W → DeckView) (h : S → DeckView) (workers : List W) (stations reversed : List S)
    → workers ≡ [] → reversed ≡ reverse stations → map f workers ++ map h (reverse reversed) ≡ map h stations
none_staffed {W} {S} f h workers stations reversed idle is =
    ap (λ (some : List W). map f some ++ map h (reverse reversed)) idle ∙ ap (map h) (ap reverse is ∙ reverse-reverse stations)

pub decks_staffed : {W S : Type 0} (f : W → DeckView) (h : S → DeckView) (workers more : List W) (stations rest : List S) (w : W) (s : S)
    (all : List DeckView) → stations ≡ rest ++ s ∷ [] → more ≡ workers ++ w ∷ [] → f w ≡ h s
    → map f workers ++ map h (reverse stations) ≡ all → map f more ++ map h (reverse rest) ≡ all
decks_staffed {W} {S} f h workers more stations rest w s all popped pushed same before =
    ap (λ (front : List W). map f front ++ map h (reverse rest)) pushed
    ∙ ap (λ (front : List DeckView). front ++ map h (reverse rest)) (map-append f workers (w ∷ []))
    ∙ append_assoc (map f workers) (f w ∷ []) (map h (reverse rest))
    ∙ ap (λ (deck : DeckView). map f workers ++ (deck ∷ map h (reverse rest))) same
    ∙ sym (ap (λ (behind : List S). map f workers ++ map h behind) (ap reverse popped ∙ reverse-append rest (s ∷ [])))
    ∙ before

pub decks_all_staffed : {W S : Type 0} (f : W → DeckView) (h : S → DeckView) (workers : List W) (left : List S) (all : List DeckView)
    → left ≡ [] → map f workers ++ map h (reverse left) ≡ all → map f workers ≡ all
decks_all_staffed {W} {S} f h workers left all empty are =
    sym (append-nil (map f workers)) ∙ sym (ap (λ (some : List S). map f workers ++ map h (reverse some)) empty) ∙ are

empty_rest : {W : Type 0} (n : ℕ) (xs : List W) → length xs ≤ n → drop n xs ≡ []
empty_rest zero [] none_left = refl
empty_rest zero (x ∷ xs) none_left = absurd (omega (arith, none_left))
empty_rest (suc n) [] none_left = refl
empty_rest (suc n) (x ∷ xs) none_left = empty_rest n xs (omega (arith, none_left))

-- a list whose front was written back is the new one, where that is as long
pub written_back : {W : Type 0} (len : ℕ) (old new : List W) → len ≡ length old → length new ≡ length old
    → take len (new ++ drop (length new) old) ≡ new
written_back len old new whole same =
    ap (take len) (ap (λ rest. new ++ rest) (empty_rest (length new) old (omega (arith, same))) ∙ append-nil new)
    ∙ take_all len new (omega (arith, whole, same))
