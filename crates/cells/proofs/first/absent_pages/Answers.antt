use Rattle.std.proofs.Common.{◌≡◌, ℕ, ◌*◌, ◌/◌, ◌%◌, ◌<◌, List, [], ◌∷◌, ◌++◌, replicate, rules, sym, ap, ◌∙◌, subst, arith, div-add-mod'}
use Rattle.cells.specs.declared.cells.Newest.{Newest}
use Rattle.cells.specs.First.{absent_version}
use Rattle.cells.proofs.FirstPaged.{whole, AreAbsent, absent_whole, absent_and}
use Rattle.cells.proofs.first.absent_pages.Goals as goal

pub returns-then-rest-eq0-clause-paged : goal.returns-then-rest-eq0-clause-paged
returns-then-rest-eq0-clause-paged c =
    let none : c.args.count % 4096 ≡ 0 = search rules in
    let count : c.args.count ≡ c.args.count / 4096 * 4096 = omega (arith, div-add-mod' c.args.count 4096, none) in
    (subst (AreAbsent c.args.count) (sym c.in_ok-pages.ensures) (absent_whole c.args.count (c.args.count / 4096) count)).paged

pub returns-then-rest-eq0-clause-absent : goal.returns-then-rest-eq0-clause-absent
returns-then-rest-eq0-clause-absent c =
    let none : c.args.count % 4096 ≡ 0 = search rules in
    let count : c.args.count ≡ c.args.count / 4096 * 4096 = omega (arith, div-add-mod' c.args.count 4096, none) in
    (subst (AreAbsent c.args.count) (sym c.in_ok-pages.ensures) (absent_whole c.args.count (c.args.count / 4096) count)).absent

-- the whole pages, and the last one
last : {count : ℕ} {pages : List (List Newest)} {page : List Newest} → pages ≡ whole (count / 4096) ++ page ∷ [] → page ≡ replicate (count % 4096) absent_version → 0 < count % 4096
    → AreAbsent count pages
last {count} {pages} {page} pushed is some = subst (AreAbsent count) (sym (pushed ∙ ap (λ p. whole (count / 4096) ++ p ∷ []) is))
    (absent_and count (count / 4096) (count % 4096) (sym (div-add-mod' count 4096)) some (omega arith))

pub returns-clause-paged : goal.returns-clause-paged
returns-clause-paged c =
    let some : 0 < c.args.count % 4096 = search rules in
    (last {count = c.args.count} (c.in_ok-push.ensures.items ∙ ap (λ l. l ++ c.absent.result ∷ []) c.in_ok-pages.ensures) c.absent.ensures some).paged

pub returns-clause-absent : goal.returns-clause-absent
returns-clause-absent c =
    let some : 0 < c.args.count % 4096 = search rules in
    (last {count = c.args.count} (c.in_ok-push.ensures.items ∙ ap (λ l. l ++ c.absent.result ∷ []) c.in_ok-pages.ensures) c.absent.ensures some).absent
