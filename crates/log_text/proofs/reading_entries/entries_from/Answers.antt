use Rattle.std.proofs.Common.{◌≡◌, ◌+◌, ◌-◌, ◌≤◌, suc, ℕ, List, ◌∷◌, [], ◌++◌, length, map, refl, sym, ap, ◌∙◌, arith, rules, ◌≢◌, None}
use Rattle.money.specs.declared.refusal.Refusal.TheVariants.{OutOfMemory, Damaged}
use Rattle.std.proofs.lemmas.List.{map-append, length-append}
use Rattle.log_codec.specs.Read.{filled}
use Rattle.log_text.specs.Entries.{logged}
use Rattle.log_text.specs.Loops.{filled_after}
use Rattle.log_text.specs.Read.{entry_from, entries_from}
use Rattle.log_text.specs.declared.entry.LoggedEntry.{LoggedEntry}
use Rattle.log_text.proofs.Looping.{filled_begins, filled_goes_on, filled_ends, filled_done}
use Rattle.log_text.proofs.Texts.{fewer}
use Rattle.log_text.proofs.reading_entries.entries_from.Goals as goal

pub entries-init : goal.entries-init
unfolding entries_from
entries-init c =
    let none = c.new-entries.ensures.items in (
      search rules,
      omega (arith, ap length none),
      ap (λ (l : List LoggedEntry). filled_after (map logged l) (filled entry_from c.args.bytes.now (length c.args.bytes.now - length l))) none
          ∙ filled_begins (filled entry_from c.args.bytes.now (length c.args.bytes.now - 0))
          ∙ ap (filled entry_from c.args.bytes.now) (whole (length c.args.bytes.now)),
    )
  where
    whole : (n : ℕ) → n - 0 ≡ n
    whole n = omega arith

pub returns-in_err-entry : goal.returns-in_err-entry
unfolding entries_from
returns-in_err-entry c =
    let size : ℕ = length c.args.bytes.now - (length c.entries.entries.items + 1) in
    let left : length c.args.bytes.now - length c.entries.entries.items ≡ suc size = omega (arith, c.entries.invariant.1, c.entries-test.true) in
    let ends : c.in_err-entry.field-0.0 ≢ OutOfMemory → (c.in_err-entry.field-0.0 ≡ Damaged) × (entries_from c.args.bytes.now ≡ None) =
    λ other. let h = c.in_err-entry.ensures other in (
      h.0,
      sym c.entries.invariant.2
          ∙ ap (λ (n : ℕ). filled_after (map logged c.entries.entries.items) (filled entry_from c.entries.rest.now n)) left
          ∙ filled_ends entry_from (map logged c.entries.entries.items) size c.entries.rest.now c.entries-test.true h.1,
    ) in
    search (rules, ends)

pub entries-smaller : goal.entries-smaller
entries-smaller c = (fewer c.entries.rest.now c.in_ok-entry.behind.now (logged c.in_ok-entry.entry) c.entries.invariant.0 c.in_ok-entry.ensures).1

pub entries-preserved : goal.entries-preserved
unfolding entries_from
entries-preserved c =
    let behind = fewer c.entries.rest.now c.in_ok-entry.behind.now (logged c.in_ok-entry.entry) c.entries.invariant.0 c.in_ok-entry.ensures in
    let items : c.push.new.self.items ≡ c.entries.entries.items ++ c.in_ok-entry.entry ∷ [] = c.in-Ok.ensures.items in
    let long : length c.push.new.self.items ≡ length c.entries.entries.items + 1 =
    ap length items ∙ length-append c.entries.entries.items (c.in_ok-entry.entry ∷ []) in
    let size : ℕ = length c.args.bytes.now - (length c.entries.entries.items + 1) in
    let left : length c.args.bytes.now - length c.entries.entries.items ≡ suc size = omega (arith, c.entries.invariant.1, c.entries-test.true) in
    let view : map logged c.push.new.self.items ≡ map logged c.entries.entries.items ++ logged c.in_ok-entry.entry ∷ [] =
    ap (map logged) items ∙ map-append logged c.entries.entries.items (c.in_ok-entry.entry ∷ []) in (
      behind.0,
      omega (arith, behind.1, long, c.entries.invariant.1),
      (λ i. filled_after (view i) (filled entry_from c.in_ok-entry.behind.now (length c.args.bytes.now - long i)))
          ∙ sym (filled_goes_on entry_from (map logged c.entries.entries.items) size c.entries.rest.now (logged c.in_ok-entry.entry) c.in_ok-entry.behind.now
          c.entries-test.true c.in_ok-entry.ensures)
          ∙ ap (λ (n : ℕ). filled_after (map logged c.entries.entries.items) (filled entry_from c.entries.rest.now n)) (sym left) ∙ c.entries.invariant.2,
    )

pub returns : goal.returns
unfolding entries_from
returns c =
    let none : c.entries.rest.now ≡ [] = no_bytes c.entries.rest.now c.entries-test.false in
    sym c.entries.invariant.2
    ∙ ap (λ (r : List ℕ). filled_after (map logged c.entries.entries.items) (filled entry_from r (length c.args.bytes.now - length c.entries.entries.items)))
    none
    ∙ filled_done entry_from (map logged c.entries.entries.items) (length c.args.bytes.now - length c.entries.entries.items)
  where
    no_bytes : (l : List ℕ) → length l ≤ 0 → l ≡ []
    no_bytes [] h = refl
    no_bytes (b ∷ bs) h = absurd (omega arith)
