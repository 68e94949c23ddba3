-- What came of terminals' inputs, counted.
use Rattle.std.proofs.Common.{◌≡◌, ℕ, All, List, length, map, ap, sym, subst, ◌∙◌}
use Rattle.std.proofs.lemmas.List.{length-map}
use Rattle.std.proofs.lemmas.List.Elements.{All-map}
use Rattle.run_threads.specs.Tally.{AreTallySums, IsCounted, inputs_in}
use Rattle.run_threads.specs.declared.tally.Tally.{Tally}
use Rattle.run_threads.specs.declared.counts.Counts.{Counts}

pub counted_of : {W : Type 0} (tally : W → Tally) (workers : List W) (tallies : List Tally)
    (terminals inputs : ℕ) (c : Counts) → tallies ≡ map tally workers → length workers ≡ terminals
    → All (λ w. inputs_in (tally w) ≡ inputs) workers → AreTallySums tallies c
    → IsCounted terminals inputs tallies c
counted_of {W} tally workers tallies terminals inputs c are count all sums = record {
  terminals_are = ap length are ∙ length-map workers tally ∙ count;
  all_inputs = subst (All (λ (t : Tally). inputs_in t ≡ inputs)) (sym are)
      (All-map (λ (t : Tally). inputs_in t ≡ inputs) tally workers all);
  sums = sums;
}
