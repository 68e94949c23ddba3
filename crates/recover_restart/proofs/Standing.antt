-- At which mark files stand behind a restart.
use Rattle.std.proofs.Common.{◌≡◌, ⊎_elim, ℕ, ◌<◌, ◌≤◌, List, [], length, get_or, sym, ap, ◌∙◌, subst, arith}
use Rattle.std.proofs.lemmas.Bool.{cases_lt}
use Rattle.tables.specs.Database.{Database}
use Rattle.tables.specs.Sizes.{Sizes}
use Rattle.book.specs.Parts.{base_of}
use Rattle.book.specs.declared.parts.Parts.{Parts}
use Rattle.log_header.specs.Header.{header_view}
use Rattle.log_text.specs.Bodies.{BodyView, start}
use Rattle.log_text.specs.declared.last.Last.{Last}
use Rattle.logfile.specs.Standing.{LogFileView}
use Rattle.recover_found.specs.Found.{last_mark}
use Rattle.recover_crashes.proofs.Marks.{last_is}
use Rattle.recover_opening.specs.Opening.{AreOpenBehind}
use Rattle.recover_restart.specs.Restarting.{GoesOnBehind, HaveMoved, StandAt}
use Rattle.recover_restart.proofs.Happening.{least_below}

module _ {D : Type 0} {s : Sizes} {seed loggers : ℕ} {old new : List (LogFileView D)} {bodies : List (List BodyView)}
    {t0 : Database} {its_seed its_loggers terminals durable top commits : ℕ} {parts : Parts}
    (behind : AreOpenBehind s seed loggers old bodies)
    (goes : GoesOnBehind t0 its_seed its_loggers terminals bodies parts durable top commits)
    (moved : HaveMoved durable top old new) where
  -- a file that stood at its last mark stands at the top, where all marks are durable
  at_top : (l : ℕ) → l < loggers → (file : LogFileView D) → top ≤ durable → (get_or old l file).last.mark ≡ top
  at_top l less file le =
      let is = behind.each l less file in
      let mark : last_mark 0 (get_or bodies l []) ≡ (get_or old l file).last.mark
      = last_is (header_view l loggers s seed) start (get_or bodies l []) (get_or old l file).last is.lawful in
      let among : l < length bodies = omega (arith, less, behind.bodies_count) in
      omega (arith, mark, le, goes.durable_is, least_below (last_mark 0) bodies l among, goes.is_top.is_top.marks l among)

  each_at : (l : ℕ) → l < loggers → (file : LogFileView D)
      → ((get_or new l file).header ≡ header_view l loggers s seed) × ((get_or new l file).last.mark ≡ top)
  each_at l less file = ⊎_elim
      (λ (more : durable < top).
      let is = moved.some more l file (omega (arith, less, behind.files_count)) in
      (is.0 ∙ (behind.each l less file).header, ap (λ (last : Last). last.mark) is.1))
      (λ (le : top ≤ durable).
      subst (λ (files : List (LogFileView D)). ((get_or files l file).header ≡ header_view l loggers s seed) × ((get_or files l file).last.mark ≡ top))
      (sym (moved.none le)) ((behind.each l less file).header, at_top l less file le))
      (cases_lt durable top)

  pub stand_at : StandAt s seed loggers (base_of parts) new
  stand_at = record {
    count = moved.count ∙ behind.files_count;
    each = λ l less file.
        let is = each_at l less file in
        (is.0, is.1 ∙ sym goes.are_parts.base_is);
  }
