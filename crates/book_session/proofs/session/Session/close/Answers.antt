use Rattle.std.proofs.Common.{List, ap, ◌∙◌, subst}
use Rattle.conditions.specs.Report.{IsReportOf}
use Rattle.book.specs.Book.{BookView}
use Rattle.book.specs.History.{replay}
use Rattle.book.specs.declared.entry.Entry.{Entry}
use Rattle.book_session.specs.Session.{SessionView}
use Rattle.book_session.proofs.session.Session.close.Goals as goal

pub returns-clause-report : goal.returns-clause-report
returns-clause-report g c =
    subst (λ (h : List Entry). IsReportOf (replay g.K.Run.run.first h) c.in_ok-report.report)
    (ap (λ (b : BookView). b.history) c.deref_mut.ensures.value ∙ ap (λ (v : SessionView). v.history) c.self.view_is)
    c.in_ok-report.ensures.report
