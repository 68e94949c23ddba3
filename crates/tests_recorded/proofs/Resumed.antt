-- From a restart to the run that goes on with what it gave.
use Rattle.std.proofs.Common.{◌≡◌, ◌∙◌, ◌<◌, ◌∷◌, ℕ, List, [], ap, arith, length, refl, subst, sym}
use Rattle.tables.specs.Sizes.{Sizes}
use Rattle.log_header.specs.Header.{HeaderView}
use Rattle.logfile.specs.Standing.{LogFileView}
use Rattle.recover_restart.specs.Restarting.{StandAt}
use Rattle.program_run.specs.Outfit.{AreLogsOf}

-- files that stand where a restart has left them are those of their loggers
pub are_logs : {D : Type 0} {s : Sizes} {seed loggers mark : ℕ} {files : List (LogFileView D)} (n : ℕ) → n ≡ loggers
    → StandAt s seed loggers mark files → AreLogsOf n mark files
are_logs {D} {s} {seed} {loggers} {mark} {files} n same stand = record {
  count = stand.count ∙ sym same;
  each = λ l less file.
      let is = stand.each l (subst (λ (k : ℕ). l < k) same less) file in
      record {
        logger_is = ap (λ (h : HeaderView). h.logger) is.0;
        loggers_are = ap (λ (h : HeaderView). h.loggers) is.0 ∙ sym same;
        mark_is = is.1;
      };
}

-- a list without elements
pub none_left : {X : Type 0} (xs : List X) → length xs ≡ 0 → xs ≡ []
none_left [] none = refl
none_left (x ∷ xs) none = absurd (omega (arith, none))
