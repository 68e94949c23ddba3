use Rattle.std.proofs.Common.{◌≡◌, ◌/◌, ◌%◌, ◌<◌, List, Vec, Global, sym, subst, arith}
use Rattle.std.specs.Prelude.{Result, Ok, Err, OnErr}
use Rattle.cells_holders.specs.Pages.{IsPaged}
use Rattle.cells.specs.declared.wide.WideNewest.{WideNewest}
use Rattle.cells.proofs.Lengthened.{sizes, has_last, pushed, kept_sizes, kept, added}
use Rattle.cells.proofs.wide_first.push_version.Goals as goal

abbrev versions : Vec WideNewest Global → List WideNewest
versions page = page.items

on_err : {T E P : Type 0} (result : Result T E) → P → OnErr result P
on_err (Ok _) p = tt
on_err (Err _) p = p

pub index_mut-requires : goal.index_mut-requires
index_mut-requires c =
    let some : 0 < c.args.count % 4096 = omega arith in
    let pages = c.args.pages.now in
    subst (λ n. c.args.count / 4096 < n) (sym pages.ok.0) (has_last versions pages.items c.args.count c.requires.paged c.requires.count some)

pub returns-in_err-push-clause-paged : goal.returns-in_err-push-clause-paged
returns-in_err-push-clause-paged c =
    let some : 0 < c.args.count % 4096 = omega arith in
    kept_sizes versions c.args.pages.now.items c.args.count c.requires.paged c.requires.count some
    c.index_mut.result.now c.index_mut.ensures.value c.push.new.self c.in_err-push.ensures.items

pub returns-in_err-push-clause-err : goal.returns-in_err-push-clause-err
returns-in_err-push-clause-err c =
    let some : 0 < c.args.count % 4096 = omega arith in
    on_err c.from_residual.result
    (kept versions c.args.pages.now.items c.args.count c.requires.paged c.requires.count some
    c.index_mut.result.now c.index_mut.ensures.value c.push.new.self c.in_err-push.ensures.items)

pub returns-then-count-ne0-clause-paged : goal.returns-then-count-ne0-clause-paged
returns-then-count-ne0-clause-paged c =
    let some : 0 < c.args.count % 4096 = omega arith in
    (pushed versions c.args.pages.now.items c.args.count c.requires.paged c.requires.count some
    c.index_mut.result.now c.index_mut.ensures.value c.push.new.self c.args.version c.in_ok-push.ensures.items).paged

pub returns-then-count-ne0-clause-ok : goal.returns-then-count-ne0-clause-ok
returns-then-count-ne0-clause-ok c =
    let some : 0 < c.args.count % 4096 = omega arith in
    (pushed versions c.args.pages.now.items c.args.count c.requires.paged c.requires.count some
    c.index_mut.result.now c.index_mut.ensures.value c.push.new.self c.args.version c.in_ok-push.ensures.items).more

pub returns-clause-paged : goal.returns-clause-paged
returns-clause-paged c =
    let none : c.args.count % 4096 ≡ 0 = omega arith in
    subst (λ (l : List (Vec WideNewest Global)). IsPaged (sizes versions l)) (sym {A = List (Vec WideNewest Global)} c.in_ok-push-2.ensures.items)
    (added versions c.args.pages.now.items c.args.count c.requires.paged c.requires.count c.in_ok-begun.field-0 c.args.version none c.in_ok-begun.ensures).paged
