use Rattle.std.proofs.Common.{◌≡◌, ◌⊎◌, inl, inr, min, true, false, ◌+◌, ◌≤◌, ◌++◌, ℕ, List, length, take, drop, sym, refl, ap, subst, arith, rules}
use Rattle.std.specs.Prelude.{nat_lt}
use Rattle.std.proofs.lemmas.Bool.{ltb-true, ltb-false}
use Rattle.log_scan.specs.Text.{IsClosed, HasNoRoom}
use Rattle.log_scan.specs.Walk.{IsWalked, LeadsOn}
use Rattle.log_scan.specs.declared.reading.TheConstants.{VOID_REST}
use Rattle.log_scan.proofs.Walking.{at_first, next_walked, holds_there}
use Rattle.log_scan.proofs.reading.read_text.Goals as goal

pub loop-bytes-init : goal.loop-bytes-init
loop-bytes-init g c = (
  search rules,
  (λ more enough. at_first (c.read_to.new.bytes.items ++ more) enough),
  inl refl,
  (λ modelled. search rules),
  search rules,
  search rules,
)

pub loop-bytes-preserved : goal.loop-bytes-preserved
loop-bytes-preserved g c =
    let inv = c.loop-bytes.invariant in
    let read = c.in_ok-read_to-2.ensures in
    let before : List ℕ = c.loop-bytes.bytes.items in
    let now : List ℕ = c.read_to-in-loop-bytes.new.bytes.items in
    let gate : ℕ = c.loop-bytes.gate in
    let step = c.in-Some.ensures.some in
    let there : c.deref.result.now ≡ now = c.deref.ensures.value in
    let within : gate ≤ length now = omega (arith, step.3, ap length there) in
    let walked : IsWalked now gate =
    subst (λ (l : List ℕ). IsWalked l gate) (sym read.more.1) (inv.1 read.more.0 (omega (arith, within, ap length read.more.1))) in
    let ahead : LeadsOn (drop gate now) step.0 = subst (λ (l : List ℕ). LeadsOn (drop gate l) step.0) there step.4 in
    let far : c.seen_to.result ≤ c.args.size = search rules in (
      read.within c.args.size inv.0 far,
      (λ more enough. subst (IsWalked (now ++ more)) (sym step.1) (next_walked now more gate step.0 walked ahead (omega (arith, enough, step.1)))),
      inr step.2,
      (λ modelled. subst (λ (l : List ℕ). now ≡ take (length now) l) (inv.5.seen modelled)
          (read.bytes modelled (subst (λ (l : List ℕ). before ≡ take (length before) l) (sym (inv.5.seen modelled)) (inv.3 modelled)))),
      search rules,
      search rules,
    )

pub returns-in-None-clause-text : goal.returns-in-None-clause-text
returns-in-None-clause-text g c = λ others all.
    let inv = c.loop-bytes.invariant in
    let read = c.in_ok-read_to-2.ensures in
    let now : List ℕ = c.read_to-in-loop-bytes.new.bytes.items in
    let gate : ℕ = c.loop-bytes.gate in
    let there : c.deref.result.now ≡ now = c.deref.ensures.value in
    let walked : gate ≤ length now → IsWalked now gate =
    (λ within. subst (λ (l : List ℕ). IsWalked l gate) (sym read.more.1) (inv.1 read.more.0 (omega (arith, within, ap length read.more.1)))) in
    let ends : gate + (9 + VOID_REST) ≤ length now → IsClosed (drop gate now) ⊎ HasNoRoom (drop gate now) others =
    (λ far. subst (λ (l : List ℕ). IsClosed (drop gate l) ⊎ HasNoRoom (drop gate l) others) there
    (c.in-None.ensures.none (omega (arith, far, ap length there)) others (omega (arith, all, ap length there)))) in
    let seen : c.seen_to.result ≡ min c.args.size (gate + (9 + VOID_REST)) = c.seen_to.ensures in
    holds_there now others gate c.args.size walked all ends (which c.args.size (gate + (9 + VOID_REST)) (length now) (omega (arith, read.size, seen)))
  where
    which : (a b n : ℕ) → min a b ≤ n → (a ≤ n) ⊎ (b ≤ n)
    which a b n e =
        elim (nat_lt b a) as (λ t. nat_lt b a ≡ t → (a ≤ n) ⊎ (b ≤ n)) [
          | true ↦ λ t. inr (omega (arith, e, ltb-true b a t))
          | false ↦ λ t. inl (omega (arith, e, ltb-false b a t))
        ] refl
