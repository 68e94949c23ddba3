use Rattle.std.proofs.Common.{◌≡◌, ℕ, ◌<◌, ◌≤◌, ◌++◌, List, Option, Some, map, flat_map, sym, ap, ◌∙◌}
use Rattle.std.specs.List.{filter}
use Rattle.std.proofs.lemmas.Result.{on_ok_weaker}
use Rattle.customer_data.specs.Text.{IsData}
use Rattle.customer_data.specs.Words.{data_words}
use Rattle.encoding.specs.Puts.{IsRow}
use Rattle.tables.specs.Records.{narrow_count, record_count}
use Rattle.readset.specs.Writes.{added, as_written}
use Rattle.log_text.specs.Writes.{write_text}
use Rattle.log_entries.specs.Logged.{write_at, history_write, is_before_history, is_behind_history}
use Rattle.log_entries.proofs.Parts.{of_map, low_numbers, high_numbers, high_below, high_texts, parts_text}
use Rattle.log_entries.proofs.writing.put_writes.Goals as goal

pub put_before-requires-clause-numbers : goal.put_before-requires-clause-numbers
put_before-requires-clause-numbers c =
    low_numbers c.args.scale.now c.args.writes.now c.parts.result.0.now _ c.parts.ensures.values c.parts.ensures.kinds c.parts.ensures.found
    c.requires.records c.requires.narrow c.requires.texts

pub put_behind-requires-clause-numbers : goal.put_behind-requires-clause-numbers
put_behind-requires-clause-numbers c =
    low_numbers c.args.scale.now c.args.writes.now c.parts.result.0.now _ c.parts.ensures.values c.parts.ensures.kinds c.parts.ensures.found
    c.requires.records c.requires.narrow c.requires.texts

pub put_texts-requires-clause-wide : goal.put_texts-requires-clause-wide
put_texts-requires-clause-wide c =
    of_map (λ (e : ℕ × Option (List ℕ)). narrow_count c.args.scale.now ≤ e.0) as_written c.parts.result.1.now
    (high_numbers c.args.scale.now c.args.writes.now c.parts.result.0.now _ c.parts.ensures.values c.parts.ensures.kinds c.parts.ensures.found
    c.requires.records c.requires.narrow c.requires.texts)

pub put_texts-requires-clause-below : goal.put_texts-requires-clause-below
put_texts-requires-clause-below c =
    of_map (λ (e : ℕ × Option (List ℕ)). e.0 < record_count c.args.scale.now) as_written c.parts.result.1.now
    (high_below c.args.scale.now c.args.writes.now c.parts.result.0.now _ c.parts.ensures.values c.parts.ensures.kinds c.parts.ensures.found
    c.requires.records c.requires.narrow c.requires.texts)

pub put_texts-requires-clause-texts : goal.put_texts-requires-clause-texts
put_texts-requires-clause-texts c =
    of_map (λ (e : ℕ × Option (List ℕ)). IsRow data_words IsData e.1) as_written c.parts.result.1.now
    (high_texts c.args.scale.now c.args.writes.now c.parts.result.0.now _ c.parts.ensures.values c.parts.ensures.kinds c.parts.ensures.found
    c.requires.records c.requires.narrow c.requires.texts)

pub returns : goal.returns
returns c =
    let s = c.args.scale.now in
    let T : List (ℕ × Option (List ℕ)) → List ℕ = λ es. flat_map write_text (map (write_at s) es) in
    let front = T (filter (is_before_history s) c.parts.result.0.now) in
    let back = T (filter (is_behind_history s) c.parts.result.0.now) in
    let row : c.put_row.new.out.items ≡ c.put_before.new.out.items ++ flat_map write_text (map history_write (added c.args.writes.now.history_row)) =
    c.in_ok-put_row.ensures ∙ ap (λ r. c.put_before.new.out.items ++ flat_map write_text (map history_write (added r))) c.history_row.ensures in
    let behind : c.put_behind.new.out.items
    ≡ ((c.args.out.now.items ++ front) ++ flat_map write_text (map history_write (added c.args.writes.now.history_row))) ++ back =
    c.in_ok-put_behind.ensures ∙ ap (λ (l : List ℕ). l ++ back) (row
    ∙ ap (λ (l : List ℕ). l ++ flat_map write_text (map history_write (added c.args.writes.now.history_row))) c.in_ok-put_before.ensures) in
    on_ok_weaker c.put_texts.result
    (λ all. all ∙ ap (λ (l : List ℕ). l ++ T (map as_written c.parts.result.1.now)) behind
    ∙ parts_text s c.args.writes.now c.parts.result.0.now _ c.parts.ensures.values c.parts.ensures.kinds c.parts.ensures.found
    c.requires.records c.requires.narrow c.requires.texts c.args.out.now.items)
    c.put_texts.ensures
