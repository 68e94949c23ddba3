use Rattle.std.proofs.Common.{◌≡◌, All, length, length-set, sym, ap, ◌∙◌, subst, arith}
use Rattle.std.proofs.lemmas.List.{length-replicate}
use Rattle.std.proofs.lemmas.List.Elements.{All-replicate, All-set}
use Rattle.tidword.specs.TidWord.{tid_of}
use Rattle.cells.specs.First.{absent_version}
use Rattle.cells.specs.declared.cells.Newest.{Newest}
use Rattle.tests_cells.proofs.page_tests.first_versions.Goals as goal

abbrev IsFirst : Newest → Type 0
IsFirst newest = tid_of newest.word ≡ 0

pub loop-record-init : goal.loop-record-init
loop-record-init c = (
  ap length c.in_ok-first.ensures ∙ length-replicate 4098 absent_version,
  subst (All IsFirst) (sym c.in_ok-first.ensures) (All-replicate IsFirst 4098 absent_version (omega arith)),
)

pub loop-record-preserved : goal.loop-record-preserved
loop-record-preserved c =
    let was = c.loop-record.invariant in
    let made : Newest = record { word = c.version_of-word.result.word; payload = c.version_of-word.result.payload } in (
      ap length c.in_ok-set.ensures.ok ∙ length-set c.loop-record.first c.loop-record.record made ∙ was.0,
      subst (All IsFirst) (sym c.in_ok-set.ensures.ok)
          (All-set IsFirst c.loop-record.first c.loop-record.record made (ap tid_of c.version_of-word.ensures.word) was.1),
    )
