-- What was declared void in files, as worlds in which crashes happen have them.
use Rattle.std.proofs.Common.{◌++◌, take, drop, ◌≡◌, ℕ, ◌+◌, ◌<◌, ◌≤◌, List, [], ◌∷◌, length, map, get_or, refl, sym, ap, ◌∙◌, subst, arith}
use Rattle.std.proofs.lemmas.List.{append-nil, drop_all, get_or-map, length-map, take_all}
use Rattle.log_disk.specs.Calls.{Call}
use Rattle.logfile.specs.Standing.{LogFileView}
use Rattle.recover_opening.specs.Opening.{file_on}
use Rattle.recover_restart.specs.Declaring.{IsDeclared, AreDeclared, no_failure}
use Rattle.recover_restart.specs.Restarting.{HasLost, HaveLost, HaveMoved}

-- an element of a list that has one
pub one_of : {A : Type 0} (xs : List A) → 0 < length xs → A
one_of [] less = absurd (omega (arith, less))
one_of (x ∷ xs) less = x

-- what is so of the elements of two lists at one place, as a function gives them
pub on_both : {A B : Type 0} (f : A → B) (P : B → B → Type 0) (old new : List A) → length new ≡ length old → (l : ℕ) (d : B)
    → l < length old → ((e : A) → P (f (get_or old l e)) (f (get_or new l e))) → P (get_or (map f old) l d) (get_or (map f new) l d)
on_both {A} {B} f P old new count l d less holds =
    let e : A = one_of old (omega (arith, less)) in
    subst (λ (b : B). P b (get_or (map f new) l d)) (sym (get_or-map f old l e d less))
    (subst (λ (b : B). P (f (get_or old l e)) b) (sym (get_or-map f new l e d (omega (arith, less, count)))) (holds e))

module _ {D : Type 0} {IsModelled : Type 0} {seen : D → List ℕ} {story : D → List Call} {failed : D → ℕ} {durable top : ℕ} (modelled : IsModelled) where
  pub has_lost : (old new : LogFileView D) → IsDeclared IsModelled seen story failed (durable + 1) top no_failure old new
      → HasLost durable top (file_on seen story old) (file_on seen story new)
  has_lost old new is = record {
    header = is.header;
    last = is.ok.2;
    count = is.ok.3 ∙ omega arith;
    number = is.ok.4;
    failed = is.ok.1 ∙ sym is.ok.0;
    end = is.end;
    calls = is.calls modelled;
  }

  pub have_lost : (old new : List (LogFileView D)) → durable < top
      → AreDeclared IsModelled seen story failed (durable + 1) top no_failure old new
      → HaveLost durable top (map (file_on seen story) old) (map (file_on seen story) new)
  have_lost old new less are = record {
    count = length-map new (file_on seen story) ∙ are.count ∙ sym (length-map old (file_on seen story));
    some = λ _ l d within.
        let here : l < length old = omega (arith, within, length-map old (file_on seen story)) in
        on_both (file_on seen story) (HasLost durable top) old new are.count l d here
        (λ e. has_lost (get_or old l e) (get_or new l e) (are.front l e (omega (arith, here, are.all))));
    none = λ le. absurd (omega (arith, less, le));
  }

-- what is written back of a list in place of as many elements
pub written_back : {A : Type 0} (n : ℕ) (old new : List A) → n ≡ length old → length new ≡ length old
    → take n (new ++ drop (length new) old) ≡ new
written_back n old new n_is count =
    ap (λ rest. take n (new ++ rest)) (drop_all (length new) old (omega (arith, count)))
    ∙ ap (take n) (append-nil new) ∙ take_all n new (omega (arith, n_is, count))

-- files that got a void body have its end as their mark
pub have_moved : {D : Type 0} {IsModelled : Type 0} {seen : D → List ℕ} {story : D → List Call} {failed : D → ℕ} {durable top : ℕ}
    (old new : List (LogFileView D)) → durable < top
    → AreDeclared IsModelled seen story failed (durable + 1) top no_failure old new → HaveMoved durable top old new
have_moved old new less are = record {
  count = are.count;
  some = λ _ l file within.
      let is = are.front l file (omega (arith, within, are.all)) in
      (is.header, is.ok.2);
  none = λ le. absurd (omega (arith, less, le));
}

pub stay : {D : Type 0} {durable top : ℕ} (files : List (LogFileView D)) → top ≤ durable → HaveMoved durable top files files
stay files le = record {
  count = refl;
  some = λ less. absurd (omega (arith, less, le));
  none = λ _. refl;
}

-- so they did in a list of which the others were written back
pub moved_in : {D : Type 0} {durable top n : ℕ} (items now new : List (LogFileView D)) → now ≡ items → n ≡ length items
    → HaveMoved durable top now new → HaveMoved durable top items (take n (new ++ drop (length new) items))
moved_in {D} {durable} {top} {n} items now new value n_is moved =
    let count : length new ≡ length items = moved.count ∙ ap length value in
    subst (λ (files : List (LogFileView D)). HaveMoved durable top items files) (sym (written_back n items new n_is count))
    (subst (λ (files : List (LogFileView D)). HaveMoved durable top files new) value moved)

-- what was declared void of files in a list, of which the others were written back
pub lost_in : {D : Type 0} (seen : D → List ℕ) (story : D → List Call) {durable top n : ℕ} (items now new : List (LogFileView D))
    → now ≡ items → n ≡ length items
    → HaveLost durable top (map (file_on seen story) now) (map (file_on seen story) new)
    → HaveLost durable top (map (file_on seen story) items) (map (file_on seen story) (take n (new ++ drop (length new) items)))
lost_in {D} seen story {durable} {top} {n} items now new value n_is lost =
    let count : length new ≡ length items = omega (arith, lost.count, length-map new (file_on seen story), length-map now (file_on seen story), ap length value) in
    subst (λ (files : List (LogFileView D)). HaveLost durable top (map (file_on seen story) items) (map (file_on seen story) files))
    (sym (written_back n items new n_is count))
    (subst (λ (files : List (LogFileView D)). HaveLost durable top (map (file_on seen story) files) (map (file_on seen story) new)) value lost)
