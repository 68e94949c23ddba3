use Rattle.std.proofs.Common.{◌≡◌, ◌+◌, ◌*◌, List, [], ◌∷◌, ◌++◌, ℕ, length, take, rules, sym, ap, ◌∙◌, arith, add-one, length-append}
use Rattle.std.proofs.lemmas.List.{map_more}
use Rattle.cells.specs.declared.cells.Newest.{Newest}
use Rattle.cells.specs.Records.{newest_words}
use Rattle.cells.specs.First.{firsts}
use Rattle.cells_pages.specs.Rule.{versions_from}
use Rattle.cells_pages.proofs.Starting.{cut_push}
use Rattle.cells.proofs.populate.lay.Goals as goal

pub loop-newest-preserved : goal.loop-newest-preserved
loop-newest-preserved c =
    let i = c.loop-newest.newest-index in
    let was = c.loop-newest.invariant in
    let laid : List ℕ = c.loop-newest.laid.items in
    let wide : length c.words.result ≡ 8 = search rules in
    let items : c.extend_from_slice.new.self.items ≡ laid ++ c.words.result = c.in_ok-extend_from_slice.ensures.items in
    let more : length (laid ++ c.words.result) ≡ length laid + length c.words.result = length-append laid c.words.result in
    let count : length laid ≡ i * 8 = was.wide in
    let newest : c.words.result ≡ newest_words c.newest-item.result = c.words.ensures in
    record {
      wide = ap length items ∙ (let sum : length (laid ++ c.words.result) ≡ (i + 1) * 8 = omega arith in sum);
      versions =
          ap (versions_from 8 (i + 1)) items ∙ ap (λ k. versions_from 8 k (laid ++ c.words.result)) (add-one i)
          ∙ cut_push 8 i laid c.words.result was.wide wide
          ∙ (λ h. was.versions h ++ (newest h ∷ []) ∷ [])
          ∙ ap (λ (v : Newest). firsts (take i c.args.block.now) ++ (newest_words v ∷ []) ∷ []) c.newest-item.is
          ∙ sym (map_more (λ (v : Newest). newest_words v ∷ []) c.args.block.now i c.newest-item.result (omega arith));
    }
