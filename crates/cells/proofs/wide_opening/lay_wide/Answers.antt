use Rattle.std.proofs.Common.{◌≡◌, ◌+◌, ◌*◌, List, [], ◌∷◌, ◌++◌, ℕ, length, take, rules, sym, ap, ◌∙◌, arith, add-one, length-append}
use Rattle.std.proofs.lemmas.List.{map_more}
use Rattle.cells.specs.declared.wide.WideNewest.{WideNewest}
use Rattle.cells.specs.Records.{wide_newest_words}
use Rattle.cells.specs.First.{wide_firsts}
use Rattle.cells_pages.specs.Rule.{versions_from}
use Rattle.cells_pages.proofs.Starting.{cut_push}
use Rattle.cells.proofs.wide_opening.lay_wide.Goals as goal

pub loop-newest-preserved : goal.loop-newest-preserved
loop-newest-preserved c =
    let i = c.loop-newest.newest-index in
    let was = c.loop-newest.invariant in
    let laid : List ℕ = c.loop-newest.laid.items in
    let wide : length c.wide_words.result ≡ 64 = search rules in
    let items : c.extend_from_slice.new.self.items ≡ laid ++ c.wide_words.result = c.in_ok-extend_from_slice.ensures.items in
    let more : length (laid ++ c.wide_words.result) ≡ length laid + length c.wide_words.result = length-append laid c.wide_words.result in
    let count : length laid ≡ i * 64 = was.wide in
    let newest : c.wide_words.result ≡ wide_newest_words c.newest-item.result = c.wide_words.ensures in
    record {
      wide = ap length items ∙ (let sum : length (laid ++ c.wide_words.result) ≡ (i + 1) * 64 = omega arith in sum);
      versions =
          ap (versions_from 64 (i + 1)) items ∙ ap (λ k. versions_from 64 k (laid ++ c.wide_words.result)) (add-one i)
          ∙ cut_push 64 i laid c.wide_words.result was.wide wide
          ∙ (λ h. was.versions h ++ (newest h ∷ []) ∷ [])
          ∙ ap (λ (v : WideNewest). wide_firsts (take i c.args.block.now) ++ (wide_newest_words v ∷ []) ∷ []) c.newest-item.is
          ∙ sym (map_more (λ (v : WideNewest). wide_newest_words v ∷ []) c.args.block.now i c.newest-item.result (omega arith));
    }
