-- A logger after its turn.
use Rattle.std.proofs.Common.{◌≡◌, ◌⊎◌, inl, inr, false, Option, Some, None, MatchOption, ap, sym, ◌∙◌, refl}
use Rattle.book.specs.Dates.{TakenView}
use Rattle.run_threads.specs.Appending.{AppenderView, ComesOf, IsAppenderIdle, Turns, appended, waits, stopped}

runs_after : {D : Type 0} (taken : TakenView) (old new : AppenderView D) → ComesOf taken old new → new.has_stopped ≡ false → new.logger.logger.file.failed ≡ false
runs_after taken old new (appended file idle) runs = file.runs
runs_after taken old new (waits same waits_for goes failed) runs = failed
runs_after taken old new (stopped file none has_stopped) runs = absurd cc

-- after what waited was tried again, it may take, if it hasn't stopped, or its device hasn't failed
runs_retried : {D : Type 0} (old new : AppenderView D) (waiting : Option TakenView) → old.waiting ≡ waiting
    → MatchOption waiting (new ≡ old) (λ taken. ComesOf taken old new) → new.has_stopped ≡ false
    → IsAppenderIdle new ⊎ (new.logger.logger.file.failed ≡ false)
runs_retried {D} old new None is same runs = inl (record { nothing_waits = ap (λ (a : AppenderView D). a.waiting) same ∙ is; runs = runs })
runs_retried {D} old new (Some taken) is comes runs = inr (runs_after taken old new comes runs)

-- if it hasn't stopped, its device hasn't failed
pub runs_turned : {D : Type 0} (old new : AppenderView D) → Turns old new → new.has_stopped ≡ false → new.logger.logger.file.failed ≡ false
runs_turned {D} old new (between, retried, inl (idle, (batch, comes))) runs = runs_after batch between new comes runs
runs_turned {D} old new (between, retried, inr (busy, same)) runs =
    elim (runs_retried old between old.waiting refl retried (sym (ap (λ (a : AppenderView D). a.has_stopped) same) ∙ runs)) as (λ _. new.logger.logger.file.failed ≡ false) [
      | inl idle ↦ absurd (busy idle)
      | inr failed ↦ ap (λ (a : AppenderView D). a.logger.logger.file.failed) same ∙ failed
    ]
