use Rattle.std.proofs.Common.{◌≡◌, ℕ, Bool, [], ◌∷◌, ◌++◌, map, sym, ap, ◌∙◌, arith}
use Rattle.std.proofs.lemmas.List.FromFn.{map-range_with_len_more}
use Rattle.std.specs.List.{range_with_len}
use Rattle.tables.specs.Database.{database}
use Rattle.tables.specs.Payment.{has_bad_credit}
use Rattle.tables.specs.Records.{size, customer_at}
use Rattle.tables.specs.declared.records.Table.TheVariants as table
use Rattle.population.proofs.credits.bad_credits.Goals as goal

pub loop-place-preserved : goal.loop-place-preserved
loop-place-preserved c =
    let t = database c.args.tables.now in
    let f : ℕ → Bool = λ p. has_bad_credit t (customer_at t.scale p) in
    let n = c.loop-place.place in
    let credit = c.bad_credit_in.ensures ∙ ap (has_bad_credit t) c.customer_at-key.ensures in
    record {
      listed = c.in_ok-push.ensures.items ∙ (λ i. c.loop-place.invariant.listed i ++ credit i ∷ []) ∙ sym (map-range_with_len_more f 0 n n (omega arith));
    }

pub returns : goal.returns
returns c =
    let t = database c.args.tables.now in
    let all : c.loop-place.place ≡ size t.scale table.Customer = omega (arith, c.loop-place.auto.place-end, c.loop-place-test.false, c.size-count.ensures.value) in
    c.loop-place.invariant.listed ∙ ap (λ n. map (λ p. has_bad_credit t (customer_at t.scale p)) (range_with_len 0 n)) all
