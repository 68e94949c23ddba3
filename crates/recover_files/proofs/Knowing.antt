-- What is known of a record, from more and more entries.
use Rattle.std.proofs.Common.{◌≡◌, ◌⊎◌, inl, inr, ⊎_elim, ℕ, ◌<◌, ◌≤◌, Bool, true, false, cond, ◌&&◌, ◌||◌, List, [], ◌∷◌, ◌++◌, Option, Some, None, refl, sym, ap, ◌∙◌, subst, arith}
use Rattle.std.specs.Prelude.{◌==◌, nat_lt}
use Rattle.std.specs.List.{Contains, fold}
use Rattle.std.proofs.lemmas.Bool.Decides.{nat_tests}
use Rattle.tables.specs.Sizes.{Sizes}
use Rattle.log_text.specs.Entries.{EntryView}
use Rattle.log_text.specs.Writes.{is_history}
use Rattle.log_text.specs.declared.write.Write.{Write}
use Rattle.recover_found.specs.Rebuilt.{number_of, IsUpTo, IsUnwritten}
use Rattle.recover_found.proofs.Elements.{Has, has_from, has_to, has_left, has_right, has_either}
use Rattle.recover_newest.specs.Latest.{is_older, newer, joined}
use Rattle.recover_files.specs.Parts.{IsLatest, IsKnown, raised_by}
use Rattle.recover_newest.specs.declared.latest.Latest.{Latest}

either_of : (es fs : List EntryView) (d : EntryView) → Contains (es ++ fs) d → Contains es d ⊎ Contains fs d
either_of es fs d h = ⊎_elim (λ k. inl (has_to es d k)) (λ k. inr (has_to fs d k)) (has_either es fs d (has_from (es ++ fs) d h))

in_left : (es fs : List EntryView) (d : EntryView) → Contains es d → Contains (es ++ fs) d
in_left es fs d h = has_to (es ++ fs) d (has_left es fs d (has_from es d h))

in_right : (es fs : List EntryView) (d : EntryView) → Contains fs d → Contains (es ++ fs) d
in_right es fs d h = has_to (es ++ fs) d (has_right es fs d (has_from fs d h))

-- what the test of age says
older : (v w : Latest) → is_older v w ≡ true → (v.tid < w.tid) ⊎ ((v.tid ≡ w.tid) × (v.number ≤ w.number))
older v w h =
    elim (nat_lt v.tid w.tid) as (λ b. nat_lt v.tid w.tid ≡ b → (v.tid < w.tid) ⊎ ((v.tid ≡ w.tid) × (v.number ≤ w.number))) [
      | true ↦ λ t. inl (grind (arith, nat_tests))
      | false ↦ λ f. inr (grind (arith, nat_tests), grind (arith, nat_tests))
    ] refl

not_older : (v w : Latest) → is_older v w ≡ false → (w.tid < v.tid) ⊎ ((w.tid ≡ v.tid) × (w.number ≤ v.number))
not_older v w h =
    elim (nat_lt w.tid v.tid) as (λ b. nat_lt w.tid v.tid ≡ b → (w.tid < v.tid) ⊎ ((w.tid ≡ v.tid) × (w.number ≤ v.number))) [
      | true ↦ λ t. inl (grind (arith, nat_tests))
      | false ↦ λ f. inr (grind (arith, nat_tests), grind (arith, nat_tests))
    ] refl

no_newer_than : (d e f : EntryView) → IsUpTo d e → (e.tid < f.tid) ⊎ ((e.tid ≡ f.tid) × (e.number ≤ f.number)) → IsUpTo d f
no_newer_than d e f (inl a) (inl b) = inl (omega (arith, a, b))
no_newer_than d e f (inl a) (inr b) = inl (omega (arith, a, b.0))
no_newer_than d e f (inr a) (inl b) = inl (omega (arith, a.0, b))
no_newer_than d e f (inr a) (inr b) = inr (a.0 ∙ b.0, omega (arith, a.1, b.1))

module _ (s : Sizes) (n : ℕ) where
  nothing_more : (es fs : List EntryView) (v : Latest) → IsLatest s es n v → IsUnwritten s fs n → IsLatest s (es ++ fs) n v
  nothing_more es fs v a none = record {
    newest = record {
      entry = a.newest.entry;
      among = in_left es fs a.newest.entry a.newest.among;
      leaves = a.newest.leaves;
      newest = λ d other h l. ⊎_elim (λ k. a.newest.newest d other k l) (λ k. absurd (none d other k l)) (either_of es fs d h);
    };
    value = a.value;
    tid = a.tid;
    number = a.number;
  }

  nothing_before : (es fs : List EntryView) (w : Latest) → IsUnwritten s es n → IsLatest s fs n w → IsLatest s (es ++ fs) n w
  nothing_before es fs w none b = record {
    newest = record {
      entry = b.newest.entry;
      among = in_right es fs b.newest.entry b.newest.among;
      leaves = b.newest.leaves;
      newest = λ d other h l. ⊎_elim (λ k. absurd (none d other k l)) (λ k. b.newest.newest d other k l) (either_of es fs d h);
    };
    value = b.value;
    tid = b.tid;
    number = b.number;
  }

  replaced : (es fs : List EntryView) (v w : Latest) → is_older v w ≡ true → IsLatest s es n v → IsLatest s fs n w → IsLatest s (es ++ fs) n w
  replaced es fs v w h a b = record {
    newest = record {
      entry = b.newest.entry;
      among = in_right es fs b.newest.entry b.newest.among;
      leaves = b.newest.leaves;
      newest = λ d other at l. ⊎_elim (λ k. no_newer_than d a.newest.entry b.newest.entry (a.newest.newest d other k l) later)
          (λ k. b.newest.newest d other k l) (either_of es fs d at);
    };
    value = b.value;
    tid = b.tid;
    number = b.number;
  }
    where
      later : (a.newest.entry.tid < b.newest.entry.tid) ⊎ ((a.newest.entry.tid ≡ b.newest.entry.tid) × (a.newest.entry.number ≤ b.newest.entry.number))
      later = ⊎_elim (λ k. inl (omega (arith, k, a.tid, b.tid))) (λ k. inr (a.tid ∙ k.0 ∙ sym b.tid, omega (arith, k.1, a.number, b.number))) (older v w h)

  stays : (es fs : List EntryView) (v w : Latest) → is_older v w ≡ false → IsLatest s es n v → IsLatest s fs n w → IsLatest s (es ++ fs) n v
  stays es fs v w h a b = record {
    newest = record {
      entry = a.newest.entry;
      among = in_left es fs a.newest.entry a.newest.among;
      leaves = a.newest.leaves;
      newest = λ d other at l. ⊎_elim (λ k. a.newest.newest d other k l)
          (λ k. no_newer_than d b.newest.entry a.newest.entry (b.newest.newest d other k l) later) (either_of es fs d at);
    };
    value = a.value;
    tid = a.tid;
    number = a.number;
  }
    where
      later : (b.newest.entry.tid < a.newest.entry.tid) ⊎ ((b.newest.entry.tid ≡ a.newest.entry.tid) × (b.newest.entry.number ≤ a.newest.entry.number))
      later = ⊎_elim (λ k. inl (omega (arith, k, a.tid, b.tid))) (λ k. inr (b.tid ∙ k.0 ∙ sym a.tid, omega (arith, k.1, a.number, b.number))) (not_older v w h)

  -- two lists of entries, known on their own
  pub known_joined : (es fs : List EntryView) (a b : Option Latest) → IsKnown s es n a → IsKnown s fs n b → IsKnown s (es ++ fs) n (joined a b)
  known_joined es fs None None a b = λ d other h l. ⊎_elim (λ k. a d other k l) (λ k. b d other k l) (either_of es fs d h)
  known_joined es fs (Some v) None a b = nothing_more es fs v a b
  known_joined es fs None (Some w) a b = nothing_before es fs w a b
  known_joined es fs (Some v) (Some w) a b =
      elim (is_older v w) as (λ t. is_older v w ≡ t → IsLatest s (es ++ fs) n (cond t w v)) [
        | true ↦ λ t. replaced es fs v w t a b
        | false ↦ λ f. stays es fs v w f a b
      ] refl

  none_known : IsKnown s [] n None
  none_known = λ d other h l. absurd (has_from [] d h)

-- the writes of one entry, one after another
module _ (s : Sizes) (n : ℕ) (e : EntryView) where
  abbrev latest_of : Write → Latest
  latest_of w = record { tid = e.tid; number = e.number; value = w.value }

  abbrev raised : Option Latest → Write → Option Latest
  raised = raised_by s e.tid e.number n

  abbrev IsOf : Write → Type 0
  IsOf w = (is_history w ≡ false) × (number_of s w ≡ n)

  -- none of them is of the record, or one is, and is kept if it is newer than what was known
  record Raises (ws : List Write) (known after : Option Latest) : Type 0 where
    write : Write
    among : Has ws write
    is_of : IsOf write
    value : after ≡ Some (newer known (latest_of write))

  abbrev Result : List Write → Option Latest → Option Latest → Type 0
  Result ws known after = (((w : Write) → Has ws w → IsOf w → ⊥) × (after ≡ known)) ⊎ Raises ws known after

  -- a second write of the entry is no newer than the first
  as_new : (known : Option Latest) (v w : Write) → newer (Some (newer known (latest_of v))) (latest_of w) ≡ newer known (latest_of v)
  as_new known v w = ap (λ (b : Bool). cond b (latest_of w) (newer known (latest_of v))) (not_older_than known)
    where
      itself : is_older (latest_of v) (latest_of w) ≡ false
      itself = grind (arith, nat_tests)

      not_older_than : (known : Option Latest) → is_older (newer known (latest_of v)) (latest_of w) ≡ false
      not_older_than None = itself
      not_older_than (Some k) =
          elim (is_older k (latest_of v)) as (λ b. is_older k (latest_of v) ≡ b → is_older (cond b (latest_of v) k) (latest_of w) ≡ false) [
            | true ↦ λ t. itself
            | false ↦ λ f. f
          ] refl

  passed : (known : Option Latest) (w : Write) → (IsOf w → ⊥) → raised known w ≡ known
  passed known w not =
      elim (is_history w) as (λ b. is_history w ≡ b → cond b known (cond (n == number_of s w) (Some (newer known (latest_of w))) known) ≡ known) [
        | true ↦ λ t. refl
        | false ↦ λ f.
            elim (n == number_of s w) as (λ b. (n == number_of s w) ≡ b → cond b (Some (newer known (latest_of w))) known ≡ known) [
              | true ↦ λ t. absurd (not (f, grind (arith, nat_tests)))
              | false ↦ λ _. refl
            ] refl
      ] refl

  kept : (known : Option Latest) (w : Write) → IsOf w → raised known w ≡ Some (newer known (latest_of w))
  kept known w is =
      let here : n == number_of s w ≡ true = (let same = is.1 in grind (arith, nat_tests)) in
      ap (λ (b : Bool). cond b known (cond (n == number_of s w) (Some (newer known (latest_of w))) known)) is.0
      ∙ ap (λ (b : Bool). cond b (Some (newer known (latest_of w))) known) here

  decides : (w : Write) → IsOf w ⊎ (IsOf w → ⊥)
  decides w =
      elim (is_history w) as (λ b. is_history w ≡ b → IsOf w ⊎ (IsOf w → ⊥)) [
        | true ↦ λ t. inr (λ is. absurd (Rattle.std.proofs.Common.true≢false (sym t ∙ is.0)))
        | false ↦ λ f.
            elim (number_of s w == n) as (λ b. (number_of s w == n) ≡ b → IsOf w ⊎ (IsOf w → ⊥)) [
              | true ↦ λ t. inl (f, grind (arith, nat_tests))
              | false ↦ λ g. inr (λ is. let same = is.1 in grind (arith, nat_tests))
            ] refl
      ] refl

  first_of : (known : Option Latest) (w : Write) (ws : List Write) → Result ws (Some (newer known (latest_of w))) (fold raised (Some (newer known (latest_of w))) ws)
      → IsOf w → Result (w ∷ ws) known (fold raised (raised known w) ws)
  first_of known w ws rest is = subst (λ (o : Option Latest). Result (w ∷ ws) known (fold raised o ws)) (sym (kept known w is))
      (⊎_elim (λ none. inr (record { write = w; among = inl refl; is_of = is; value = none.1 }))
      (λ more. inr (record { write = w; among = inl refl; is_of = is; value = more.value ∙ ap Some (as_new known w more.write) })) rest)

  first_not : (known : Option Latest) (w : Write) (ws : List Write) → Result ws known (fold raised known ws) → (IsOf w → ⊥)
      → Result (w ∷ ws) known (fold raised (raised known w) ws)
  first_not known w ws rest not = subst (λ (o : Option Latest). Result (w ∷ ws) known (fold raised o ws)) (sym (passed known w not))
      (⊎_elim (λ none. inl ((λ v h is. ⊎_elim (λ same. not (subst IsOf (sym same) is)) (λ k. none.0 v k is) h), none.1))
      (λ more. inr (record { write = more.write; among = inr more.among; is_of = more.is_of; value = more.value })) rest)

  all_raised : (known : Option Latest) (ws : List Write) → Result ws known (fold raised known ws)
  all_raised known [] = inl ((λ w h is. absurd h), refl)
  all_raised known (w ∷ ws) = ⊎_elim (first_of known w ws (all_raised (Some (newer known (latest_of w))) ws)) (first_not known w ws (all_raised known ws)) (decides w)

  only : (d : EntryView) → Contains (e ∷ []) d → e ≡ d
  only d h = ⊎_elim (λ same. same) (λ k. absurd k) (has_from (e ∷ []) d h)

  none_of : ((w : Write) → Has e.writes w → IsOf w → ⊥) → IsUnwritten s (e ∷ []) n
  none_of none = λ d other h l.
      none l.write (subst (λ (x : EntryView). Has x.writes l.write) (sym (only d h)) (has_from d.writes l.write l.among)) (l.of_record, l.number)

  one_of : (w : Write) → Has e.writes w → IsOf w → IsLatest s (e ∷ []) n (latest_of w)
  one_of w h is = record {
    newest = record {
      entry = e;
      among = has_to (e ∷ []) e (inl refl);
      leaves = record { write = w; among = has_to e.writes w h; of_record = is.0; number = is.1; words = refl };
      newest = λ d other at l. subst (λ (x : EntryView). IsUpTo x e) (only d at) (inr (refl, omega arith));
    };
    value = refl;
    tid = refl;
    number = refl;
  }

  -- one entry more
  pub known_more : (es : List EntryView) (known : Option Latest) → IsKnown s es n known → IsKnown s (es ++ e ∷ []) n (fold raised known e.writes)
  known_more es known is =
      ⊎_elim (λ none. subst (IsKnown s (es ++ e ∷ []) n) (sym none.1) (known_joined s n es (e ∷ []) known None is (none_of none.0)))
      (λ more. subst (IsKnown s (es ++ e ∷ []) n) (sym more.value)
      (known_joined s n es (e ∷ []) known (Some (latest_of more.write)) is (one_of more.write more.among more.is_of)))
      (all_raised known e.writes)
