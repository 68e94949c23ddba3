-- From a restart to the run that goes on with what it gave.
use Rattle.std.proofs.Common.{◌≡◌, ◌∙◌, ◌<◌, ◌∷◌, ℕ, List, [], Option, ap, arith, length, refl, subst, sym, Result, Ok, Err, IfOk}
use Rattle.std.specs.Io.KnownBytes.{Appends}
use Rattle.tables.specs.Database.{Database}
use Rattle.tables.specs.Sizes.{Sizes}
use Rattle.book.specs.Parts.{first_of, past_of}
use Rattle.book.specs.declared.parts.Parts.{Parts}
use Rattle.log_header.specs.Header.{HeaderView}
use Rattle.logfile.specs.Standing.{LogFileView}
use Rattle.recover_restart.specs.Restarting.{StandAt}
use Rattle.program_options.specs.declared.asked.RunOptions.{RunOptions}
use Rattle.program_run.specs.Outfit.{AreLogsOf}
use Rattle.program_run.specs.Told.{IsDriven}
use Rattle.program_run.specs.declared.driving.Driven.{Driven}
use Rattle.program_live.specs.Resumed.{IsDrivenFurther, IsResumedWith, resumed_line}

-- files that stand where a restart has left them are those of their loggers
pub are_logs : {D : Type 0} {s : Sizes} {seed loggers mark : ℕ} {files : List (LogFileView D)} (n : ℕ) → n ≡ loggers
    → StandAt s seed loggers mark files → AreLogsOf n mark files
are_logs {D} {s} {seed} {loggers} {mark} {files} n same stand = record {
  count = stand.count ∙ sym same;
  each = λ l less file.
      let is = stand.each l (subst (λ (k : ℕ). l < k) same less) file in
      record {
        logger_is = ap (λ (h : HeaderView). h.logger) is.0;
        loggers_are = ap (λ (h : HeaderView). h.loggers) is.0 ∙ sym same;
        mark_is = is.1;
      };
}

-- what ran on it is a resumed run, and as durable
pub driven_further : {r : RunOptions} {t0 : Database} {seed : ℕ} {old between new : Option (List ℕ)} {driven : Driven} {parts : Parts}
    {commits epoch : ℕ} → IsResumedWith r t0 seed parts commits epoch → Appends old between (resumed_line commits epoch)
    → IsDriven (past_of parts) (first_of parts) r.terminals r.count between new driven
    → IsDrivenFurther r t0 seed old new driven
driven_further {r} {between = between} {new = new} {driven = driven} {parts = parts} {commits} {epoch} resumed told d =
    let is = subst (λ (past : ℕ). IsDriven past (first_of parts) r.terminals r.count between new driven) resumed.1.goes_on.are_parts.past_is d in
    record {
      run = record {
        parts = parts;
        commits = commits;
        epoch = epoch;
        resumed = resumed;
        between = between;
        told = told;
        ran = is.ran;
      };
      acknowledged = is.acknowledged;
      short = is.short;
    }

-- a list without elements
pub none_left : {X : Type 0} (xs : List X) → length xs ≡ 0 → xs ≡ []
none_left [] none = refl
none_left (x ∷ xs) none = absurd (omega (arith, none))

-- what two facts of a value say together holds of what was answered
pub IfOk-pair : {A E : Type 0} (P Q S : A → Type 0) → ((a : A) → P a → Q a → S a) → (r : Result A E) → IfOk r P → IfOk r Q → IfOk r S
IfOk-pair P Q S f (Ok a) p q = f a p q
IfOk-pair P Q S f (Err e) p q = tt
