-- Void bodies in the files in front.
use Rattle.std.proofs.Common.{true≢false, ◌≡◌, ⊎_elim, ℕ, ◌+◌, ◌<◌, ◌≤◌, List, length, get_or, set, Result, Err, refl, sym, ◌∙◌, subst, arith}
use Rattle.std.proofs.lemmas.Bool.{cases_lt}
use Rattle.std.proofs.lemmas.List.{get_or-set_same, get_or-set_other, get_or_default, length-set}
use Rattle.money.specs.declared.refusal.Refusal.{Refusal}
use Rattle.log_disk.specs.Calls.{Call}
use Rattle.logfile.specs.Standing.{LogFileView}
use Rattle.recover_restart.specs.Declaring.{IsDeclared, AreDeclared, no_failure}

-- an append that was refused
abbrev pub refused : Refusal → Result (Unit {0}) Refusal
refused refusal = Err refusal

-- so many files in front have got the body, and the others stand as they stood
pub record AreDeclaredTo {D : Type 0} (IsModelled : Type 0) (seen : D → List ℕ) (story : D → List Call) (failed : D → ℕ)
    (low high n : ℕ) (old now : List (LogFileView D)) : Type 0 where
  pub count : length now ≡ length old
  pub within : n ≤ length old
  pub front : (l : ℕ) (d : LogFileView D) → l < n → IsDeclared IsModelled seen story failed low high no_failure (get_or old l d) (get_or now l d)
  pub behind : (l : ℕ) (d : LogFileView D) → n ≤ l → get_or now l d ≡ get_or old l d

module _ {D : Type 0} {IsModelled : Type 0} {seen : D → List ℕ} {story : D → List Call} {failed : D → ℕ} {low high : ℕ} where
  pub begins : (old : List (LogFileView D)) → AreDeclaredTo IsModelled seen story failed low high 0 old old
  begins old = record {
    count = refl;
    within = omega arith;
    front = λ l d less. absurd (omega (arith, less));
    behind = λ l d le. refl;
  }

  module _ {n : ℕ} {old now : List (LogFileView D)} (past new : LogFileView D) (less : n < length now)
      (so_far : AreDeclaredTo IsModelled seen story failed low high n old now) where
    here : (d : LogFileView D) → get_or now n past ≡ get_or old n d
    here d = get_or_default now n past d less ∙ so_far.behind n d (omega arith)

    there : (d : LogFileView D) → new ≡ get_or (set now n new) n d
    there d = sym (get_or-set_same now n new d less)

    front_stays : (l : ℕ) (d : LogFileView D) → l < n → IsDeclared IsModelled seen story failed low high no_failure (get_or old l d) (get_or (set now n new) l d)
    front_stays l d lt =
        subst (IsDeclared IsModelled seen story failed low high no_failure (get_or old l d))
        (sym (get_or-set_other now n l new d (λ same. omega (arith, lt, same)))) (so_far.front l d lt)

    behind_stays : (l : ℕ) (d : LogFileView D) → n < l → get_or (set now n new) l d ≡ get_or old l d
    behind_stays l d lt = get_or-set_other now n l new d (λ same. omega (arith, lt, same)) ∙ so_far.behind l d (omega (arith, lt))

    pub goes_on : IsDeclared IsModelled seen story failed low high no_failure (get_or now n past) new
        → AreDeclaredTo IsModelled seen story failed low high (n + 1) old (set now n new)
    goes_on declared = record {
      count = length-set now n new ∙ so_far.count;
      within = omega (arith, less, so_far.count);
      front = λ l d lt. ⊎_elim
          (λ before. front_stays l d before)
          (λ after. let same : n ≡ l = omega (arith, lt, after) in
          subst (λ (k : ℕ). IsDeclared IsModelled seen story failed low high no_failure (get_or old k d) (get_or (set now n new) k d)) same
          (subst (λ (f : LogFileView D). IsDeclared IsModelled seen story failed low high no_failure f (get_or (set now n new) n d)) (here d)
          (subst (λ (f : LogFileView D). IsDeclared IsModelled seen story failed low high no_failure (get_or now n past) f) (there d) declared)))
          (cases_lt l n);
      behind = λ l d le. behind_stays l d (omega (arith, le));
    }

    pub stops : (refusal : Refusal) → IsDeclared IsModelled seen story failed low high (refused refusal) (get_or now n past) new
        → AreDeclared IsModelled seen story failed low high (refused refusal) old (set now n new)
    stops refusal declared = record {
      count = length-set now n new ∙ so_far.count;
      reached = n;
      within = omega (arith, less, so_far.count);
      front = front_stays;
      all = tt;
      stopped = λ _. (
        omega (arith, less, so_far.count),
        λ d.
            subst (λ (f : LogFileView D). IsDeclared IsModelled seen story failed low high (refused refusal) f (get_or (set now n new) n d)) (here d)
            (subst (λ (f : LogFileView D). IsDeclared IsModelled seen story failed low high (refused refusal) (get_or now n past) f) (there d) declared),
      );
      left = behind_stays;
    }

  pub ends : {n : ℕ} {old now : List (LogFileView D)} → length now ≤ n
      → AreDeclaredTo IsModelled seen story failed low high n old now
      → AreDeclared IsModelled seen story failed low high no_failure old now
  ends {n} {old} {now} over so_far = record {
    count = so_far.count;
    reached = length old;
    within = omega arith;
    front = λ l d lt. so_far.front l d (omega (arith, lt, over, so_far.count));
    all = refl;
    stopped = λ never. absurd (true≢false (sym never));
    left = λ l d lt. so_far.behind l d (omega (arith, lt, so_far.within));
  }
