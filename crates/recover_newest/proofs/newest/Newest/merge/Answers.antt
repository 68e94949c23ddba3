use Rattle.std.proofs.Common.{◌≡◌, ◌≢◌, ◌+◌, ◌<◌, ◌≤◌, ⊎_elim, ℕ, Option, Some, None, length, sym, ap, ◌∙◌, arith}
use Rattle.std.specs.Prelude.{◌==◌, if◌then◌else◌}
use Rattle.std.proofs.lemmas.Bool.Decides.{eqb_tells}
use Rattle.recover_newest.specs.Known.{NewestView, known}
use Rattle.recover_newest.specs.Latest.{newer, joined}
use Rattle.recover_newest.specs.declared.latest.Latest.{Latest}
use Rattle.recover_newest.proofs.newest.Newest.merge.Goals.{in-Some+in_ok-raise, in_default}
use Rattle.recover_newest.proofs.newest.Newest.merge.Goals as goal

-- the next record is merged, whose newest write was taken out of the other list
module _ (old other now rest new left : NewestView) (next : ℕ) (records : length now.places ≡ length old.places)
    (merged : (n : ℕ) → n < next → known now n ≡ joined (known old n) (known other n))
    (same : (n : ℕ) → next ≤ n → known now n ≡ known old n) (untaken : (n : ℕ) → next ≤ n → known rest n ≡ known other n)
    (others : (n : ℕ) → n ≢ next → known left n ≡ known rest n) where
  abbrev Merged : Type 0
  Merged = (n : ℕ) → n < next + 1 → known new n ≡ joined (known old n) (known other n)

  merged_one : (write : Latest) → Some write ≡ known rest next
      → ((n : ℕ) → known new n ≡ (if n == next then Some (newer (known now n) write) else known now n)) → Merged
  merged_one write is kept n below =
      ⊎_elim
      (λ at. kept n ∙ ap (λ b. if b then Some (newer (known now n) write) else known now n) at.0
      ∙ ap (λ (o : Option Latest). Some (newer o write)) (same n (omega (arith, at.1)))
      ∙ ap (joined (known old n)) (is ∙ ap (known rest) (sym at.1) ∙ untaken n (omega (arith, at.1))))
      (λ at. kept n ∙ ap (λ b. if b then Some (newer (known now n) write) else known now n) at.0 ∙ merged n (apart n below at.1))
      (eqb_tells n next)
    where
      apart : (n : ℕ) → n < next + 1 → n ≢ next → n < next
      apart n h k = omega (arith, h, k)

  merged_none : None ≡ known rest next → ((n : ℕ) → known new n ≡ known now n) → Merged
  merged_none is kept n below =
      ⊎_elim
      (λ at. kept n ∙ same n (omega (arith, at.1)) ∙ ap (joined (known old n)) (is ∙ ap (known rest) (sym at.1) ∙ untaken n (omega (arith, at.1))))
      (λ at. kept n ∙ merged n (omega (arith, below, at.1)))
      (eqb_tells n next)

  still_untaken : (n : ℕ) → next + 1 ≤ n → known left n ≡ known other n
  still_untaken n above = others n (λ e. absurd (omega (arith, above, e))) ∙ untaken n (omega (arith, above))

  still_same : ((n : ℕ) → n ≢ next → known new n ≡ known now n) → (n : ℕ) → next + 1 ≤ n → known new n ≡ known old n
  still_same kept n above = kept n (λ e. absurd (omega (arith, above, e))) ∙ same n (omega (arith, above))

pub loop-number-preserved : goal.loop-number-preserved
loop-number-preserved c =
    let old = c.args.self.now in
    let other = c.args.other in
    let now = c.loop-number.self in
    let rest = c.loop-number.rest in
    let new = c.match-take.self in
    let left = c.take.new.self in
    let next = c.loop-number.number in
    let inv = c.loop-number.invariant in
    elim c.match-take.branch [
      | in-Some+in_ok-raise w ↦
          let write = w.in-Some.write in
          let raised : (n : ℕ) → known new n ≡ (if n == next then Some (newer (known now n) write) else known now n) =
          λ n. ap (λ (v : NewestView). known v n) w.self-is ∙ w.in_ok-raise.ensures.kept n in
          record {
            records = ap (λ (v : NewestView). length v.places) w.self-is ∙ w.raise.ensures.records ∙ inv.records;
            merged = merged_one old other now rest new left next inv.records inv.merged inv.left inv.untaken c.take.ensures.others write w.in-Some.ensures.taken raised;
            left = still_same old other now rest new left next inv.records inv.merged inv.left inv.untaken c.take.ensures.others
                (λ n at. raised n ∙ ap (λ b. if b then Some (newer (known now n) write) else known now n) (differs n next at));
            others = c.take.ensures.records ∙ inv.others;
            untaken = still_untaken old other now rest new left next inv.records inv.merged inv.left inv.untaken c.take.ensures.others;
          }
      | in_default w ↦
          let stays : (n : ℕ) → known new n ≡ known now n = λ n. ap (λ (v : NewestView). known v n) w.self-is in
          record {
            records = ap (λ (v : NewestView). length v.places) w.self-is ∙ inv.records;
            merged = merged_none old other now rest new left next inv.records inv.merged inv.left inv.untaken c.take.ensures.others w.in_default.ensures.taken stays;
            left = still_same old other now rest new left next inv.records inv.merged inv.left inv.untaken c.take.ensures.others (λ n at. stays n);
            others = c.take.ensures.records ∙ inv.others;
            untaken = still_untaken old other now rest new left next inv.records inv.merged inv.left inv.untaken c.take.ensures.others;
          }
    ]
  where
    differs : (n m : ℕ) → n ≢ m → (n == m) ≡ Rattle.std.specs.Prelude.false
    differs n m at = ⊎_elim (λ same. absurd (at same.1)) (λ other. other.0) (eqb_tells n m)
