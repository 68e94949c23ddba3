use Rattle.std.proofs.Common.{◌≡◌, [], ◌∷◌, All, length, length-append, sym, ap, ◌∙◌, subst, arith}
use Rattle.std.proofs.lemmas.List.Elements.{All-push}
use Rattle.tidword.specs.TidWord.{tid_of}
use Rattle.cells.specs.declared.wide.WideNewest.{WideNewest}
use Rattle.tests_cells.proofs.page_tests.first_wide.Goals as goal

abbrev IsFirst : WideNewest → Type 0
IsFirst newest = tid_of newest.word ≡ 0

pub loop-record-preserved : goal.loop-record-preserved
loop-record-preserved c =
    let was = c.loop-record.invariant in
    let made : WideNewest = record { word = c.wide_of-word.result.word; payload = c.wide_of-word.result.payload } in
    let more = length-append c.loop-record.first (made ∷ []) in (
      ap length c.in_ok-push.ensures.ok ∙ omega (arith, more, was.0),
      subst (All IsFirst) (sym c.in_ok-push.ensures.ok) (All-push IsFirst c.loop-record.first made was.1 (ap tid_of c.wide_of-word.ensures.word)),
    )
