-- A commit of the book is the next one.
use Rattle.std.proofs.Common.{◌≡◌, ℕ, ◌+◌, length, refl, sym, ap, ◌∙◌, arith}
use Rattle.std.proofs.lemmas.List.{length_push}
use Rattle.cells.specs.Records.{ReaderView}
use Rattle.tables.specs.Database.{Database}
use Rattle.tables.specs.Apply.{Committed, after}
use Rattle.readset.specs.declared.work.Work.{Work}
use Rattle.book.specs.History.{replay}
use Rattle.book.specs.Book.{BookView, entry_of}
use Rattle.book.specs.Committing.{CommitsWork}
use Rattle.book.specs.Next.{IsNextCommit}
use Rattle.book.specs.Share.{ShareView}
use Rattle.book.specs.declared.entry.Entry.{Entry}
use Rattle.book.specs.Done.{Done}
use Rattle.book.proofs.Replaying.{replay_push}

module _ {past : ℕ} {t0 : Database} {old new : BookView} {before after_it : ShareView} {reader : ReaderView} {work : Work} {done : Done}
    (is : CommitsWork past t0 old new before after_it reader work done)
  where
    abbrev entry : Entry
    entry = entry_of (past + length old.history + 1) done.tid before.terminal work

    longer : length new.history ≡ length old.history + 1
    longer = ap length is.commits.history ∙ length_push old.history entry

    tables : after (replay t0 old.history) work.input ≡ replay t0 new.history
    tables = sym (ap (replay t0) is.commits.history ∙ replay_push t0 old.history entry)

    pub is_next : IsNextCommit past t0 old.history new.history work.input done
    is_next = record {
      below = is.below;
      numbered = is.due.there.commit.numbered;
      commits = is.due.there.commit.commits ∙ (λ i. Committed (tables i) (sym is.reply i));
      number = is.number ∙ omega (arith, longer);
      entry = (entry, is.commits.history, refl);
    }
