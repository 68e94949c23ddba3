use Rattle.std.proofs.Common.{◌≡◌, ◌≢◌, ◌+◌, ◌-◌, suc, ℕ, List, None, sym, ap, ◌∙◌, arith, rules}
use Rattle.money.specs.declared.refusal.Refusal.TheVariants.{OutOfMemory, Damaged}
use Rattle.log_codec.specs.Read.{many}
use Rattle.log_text.specs.Loops.{many_after}
use Rattle.log_text.specs.Read.{write_from}
use Rattle.log_text.specs.declared.write.Write.{Write}
use Rattle.log_text.proofs.Looping.{many_begins, many_goes_on, many_ends, many_done}
use Rattle.log_text.proofs.reading_entries.writes_from.Goals as goal

pub writes-init : goal.writes-init
writes-init c = (
  omega arith,
  ap (λ (l : List Write). many_after l (many (c.args.count - 0) write_from c.args.bytes.now)) c.in_ok-writes.ensures.items
      ∙ many_begins (many (c.args.count - 0) write_from c.args.bytes.now) ∙ ap (λ (n : ℕ). many n write_from c.args.bytes.now) (whole c.args.count),
)
  where
    whole : (n : ℕ) → n - 0 ≡ n
    whole n = omega arith

pub returns-in_err-write : goal.returns-in_err-write
returns-in_err-write c =
    let left : c.args.count - c.writes.counter ≡ suc (c.args.count - (c.writes.counter + 1)) = search rules in
    let ends : c.in_err-write.field-0.0 ≢ OutOfMemory
    → (c.in_err-write.field-0.0 ≡ Damaged) × (many c.args.count write_from c.args.bytes.now ≡ None) =
    λ other. let h = c.in_err-write.ensures other in (
      h.0,
      sym c.writes.invariant.1 ∙ ap (λ (n : ℕ). many_after c.writes.writes.items (many n write_from c.writes.rest.now)) left
          ∙ many_ends write_from c.writes.writes.items (c.args.count - (c.writes.counter + 1)) c.writes.rest.now h.1,
    ) in
    search (rules, ends)

pub writes-preserved : goal.writes-preserved
writes-preserved c =
    let left : c.args.count - c.writes.counter ≡ suc (c.args.count - (c.writes.counter + 1)) = search rules in (
      search rules,
      ap (λ (l : List Write). many_after l (many (c.args.count - (c.writes.counter + 1)) write_from c.in_ok-write.behind.now)) c.in-Ok.ensures.items
          ∙ sym (many_goes_on write_from c.writes.writes.items (c.args.count - (c.writes.counter + 1)) c.writes.rest.now c.in_ok-write.write c.in_ok-write.behind.now
          c.in_ok-write.ensures)
          ∙ ap (λ (n : ℕ). many_after c.writes.writes.items (many n write_from c.writes.rest.now)) (sym left) ∙ c.writes.invariant.1,
    )

pub returns : goal.returns
returns c =
    let none : c.args.count - c.writes.counter ≡ 0 = search rules in
    sym c.writes.invariant.1 ∙ ap (λ (n : ℕ). many_after c.writes.writes.items (many n write_from c.writes.rest.now)) none
    ∙ many_done write_from c.writes.writes.items c.writes.rest.now
