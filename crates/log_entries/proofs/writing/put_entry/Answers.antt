use Rattle.std.proofs.Common.{◌≡◌, ℕ, List, ◌++◌, length, sym, ap, ◌∙◌}
use Rattle.std.specs.Prelude.{flat_map}
use Rattle.std.proofs.lemmas.List.{append_assoc}
use Rattle.std.proofs.lemmas.Result.{on_ok_weaker}
use Rattle.log_codec.specs.Numbers.{number}
use Rattle.log_text.specs.Writes.{write_text}
use Rattle.log_text.specs.Entries.{EntryView, entry_text, front_text}
use Rattle.log_entries.specs.Logged.{logged_entry}
use Rattle.log_entries.proofs.Lawful.{length_writes}
use Rattle.log_entries.proofs.writing.put_entry.Goals as goal

-- what stands in front, then the writes
joined : (out front after : List ℕ) (e : EntryView) (count : ℕ) → count ≡ length e.writes → front ≡ out ++ front_text e.number e.tid e.terminal count
    → after ≡ front ++ flat_map write_text e.writes → after ≡ out ++ entry_text e
joined out front after e count many in_front all =
    all
    ∙ ap (λ (l : List ℕ). l ++ flat_map write_text e.writes) (in_front ∙ ap (λ (n : ℕ). out ++ front_text e.number e.tid e.terminal n) many)
    ∙ regroup out (number 8 e.number) (number 8 e.tid) (number 2 e.terminal) (number 2 (length e.writes)) (flat_map write_text e.writes)
  where
    regroup : (a b c d f g : List ℕ) → (a ++ (b ++ (c ++ (d ++ f)))) ++ g ≡ a ++ (b ++ (c ++ (d ++ (f ++ g))))
    regroup a b c d f g = simp append_assoc

pub returns : goal.returns
returns c = on_ok_weaker c.put_writes.result
    (joined c.args.out.now.items c.put_front.new.out.items c.put_writes.new.out.items (logged_entry c.args.scale.now c.args.entry.now) c.count.result
    (c.count.ensures ∙ sym (length_writes c.args.scale.now c.args.entry.now.writes))
    (c.in_ok-put_front.ensures
    ∙ (λ i. c.args.out.now.items ++ front_text (c.from.ensures i) (c.word.ensures i) c.args.entry.now.terminal c.count.result)))
    c.put_writes.ensures
