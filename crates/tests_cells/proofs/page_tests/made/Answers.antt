use Rattle.std.proofs.Common.{◌≡◌, ◌<◌, ◌++◌, [], ◌∷◌, List, ℕ, All, length-append, ap, ◌∙◌, arith}
use Rattle.std.proofs.lemmas.List.{length-map}
use Rattle.std.proofs.lemmas.Result.{IfOk-weaker}
use Rattle.std.proofs.lemmas.List.Elements.{All-append, All-map}
use Rattle.tidword.specs.TidWord.{tid_of}
use Rattle.cells.specs.Records.{PenView, at, newest_words, wide_newest_words}
use Rattle.cells.specs.Versions.{last_tid}
use Rattle.cells.specs.First.{firsts, wide_firsts}
use Rattle.cells.specs.declared.cells.Newest.{Newest}
use Rattle.cells.specs.declared.wide.WideNewest.{WideNewest}
use Rattle.tests_cells.proofs.page_tests.made.Goals as goal

abbrev IsFirst : List (List ℕ) → Type 0
IsFirst versions = last_tid versions ≡ 0

all_first : (narrow : List Newest) (wide : List WideNewest) → All (λ v. tid_of v.word ≡ 0) narrow → All (λ v. tid_of v.word ≡ 0) wide
    → All IsFirst (firsts narrow ++ wide_firsts wide)
all_first narrow wide narrow_first wide_first = All-append IsFirst (firsts narrow) (wide_firsts wide)
    (All-map IsFirst (λ (v : Newest). newest_words v ∷ []) narrow narrow_first)
    (All-map IsFirst (λ (v : WideNewest). wide_newest_words v ∷ []) wide wide_first)

pub returns-clause-first : goal.returns-clause-first
returns-clause-first g c =
    let narrow = c.in_ok-first.first in
    let wide = c.in_ok-wide.wide in
    let all = all_first narrow wide c.in_ok-first.ensures.zero c.in_ok-wide.ensures.zero in
    let narrow_count = length-map narrow (λ (v : Newest). newest_words v ∷ []) in
    let wide_count = length-map wide (λ (v : WideNewest). wide_newest_words v ∷ []) in
    let count = length-append (firsts narrow) (wide_firsts wide) in
    IfOk-weaker c.with_wide.result (λ p. p.1 ≡ record { cells = p.0; all = firsts narrow ++ wide_firsts wide })
    (λ p. (n : ℕ) → n < 8196 → last_tid (at p.1.all n) ≡ 0)
    (λ p is n h. ap (λ (w : PenView). last_tid (at w.all n)) is
    ∙ all n [] (omega (arith, h, count, narrow_count, wide_count, c.in_ok-first.ensures.count, c.in_ok-wide.ensures.count)))
    c.with_wide.ensures.pen
