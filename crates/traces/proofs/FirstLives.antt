-- New log files, and the steps that go on from there.
use Rattle.std.proofs.Common.{◌≡◌, ℕ, ◌+◌, ◌<◌, Bool, false, Result, Ok, Err, List, [], ◌∷◌, ◌++◌, length, take, refl, sym, ap, ◌∙◌, subst, arith, IsTrue}
use Rattle.std.specs.Prelude.{◌↔◌, IfOk, slice_index_or}
use Rattle.std.proofs.lemmas.Option.{slice_get_within}
use Rattle.log_disk.specs.Calls.{Wrote, Synced, written}
use Rattle.log_disk.specs.Memory.{IsWriteOf, replayed_calls}
use Rattle.log_disk.specs.declared.memory_call.MemoryCall.{MemoryCall}
use Rattle.log_disk.specs.declared.memory_call.MemoryCall.TheVariants.{Write, Sync}
use Rattle.log_header.specs.Header.{HeaderView, header_of_version}
use Rattle.log_text.specs.Bodies.{start}
use Rattle.logfile.specs.Standing.{LogFileView, Stands}
use Rattle.logfile.proofs.Appending.{created}
use Rattle.recover_crashes.specs.World.{Life, DiskView, IsFirst, header_of, opening}
use Rattle.traces.specs.declared.step.Start.{Start}
use Rattle.traces.specs.declared.step.Step.{Step}
use Rattle.traces.specs.Told.{TraceView, calls_of, AreStarts, IsTraceOf, MayBeTakenInTurn}
use Rattle.traces.specs.First.{new_header, new_text, IsMade, disk_by, AreOfFirstLife}
use Rattle.traces.proofs.Beginnings.{next_taken}

module _ (t : TraceView) (seed l : ℕ) (s : Start) (is : IsMade t seed l s) where
  -- the first two calls
  two : take 2 (calls_of t l) ≡ is.first ∷ Sync ∷ []
  two =
      sym (next_taken (calls_of t l) 1 Sync is.syncs)
      ∙ ap (λ (cs : List MemoryCall). cs ++ Sync ∷ []) (sym (next_taken (calls_of t l) 0 is.first is.begins))

  -- what they leave
  bytes_left : (call : MemoryCall) → IsWriteOf 0 (new_text t seed l) call
      → (replayed_calls (call ∷ Sync ∷ [])).bytes ≡ written [] 0 (new_text t seed l)
  bytes_left (Write place items) h = λ i. written [] (h.0 i) (h.1 i)
  bytes_left Sync h = absurd h

  story_left : (call : MemoryCall) → IsWriteOf 0 (new_text t seed l) call
      → (replayed_calls (call ∷ Sync ∷ [])).story ≡ Synced (written [] 0 (new_text t seed l)) ∷ Wrote 0 (length (new_text t seed l)) ∷ []
  story_left (Write place items) h = λ i. Synced (written [] (h.0 i) (h.1 i)) ∷ Wrote (h.0 i) (length (h.1 i)) ∷ []
  story_left Sync h = absurd h

  pub made_story : (disk_by (take 2 (calls_of t l))).story
      ≡ Synced (written [] 0 (new_text t seed l)) ∷ Wrote 0 (length (new_text t seed l)) ∷ []
  made_story = ap (λ (cs : List MemoryCall). (replayed_calls cs).story) two ∙ story_left is.first is.writes

  pub made_stands : Stands (new_header t seed l) [] s.end start (disk_by (take 2 (calls_of t l))).seen (disk_by (take 2 (calls_of t l))).story
  made_stands =
      created (new_header t seed l) is.header s.end start (new_text t seed l) [] (written [] 0 (new_text t seed l))
      (disk_by (take 2 (calls_of t l))).seen (Wrote 0 (length (new_text t seed l)) ∷ []) (disk_by (take 2 (calls_of t l))).story
      refl is.end refl refl refl
      (ap (λ (cs : List MemoryCall). (replayed_calls cs).bytes) two ∙ bytes_left is.first is.writes) made_story

-- the files, by where they stand
file_made : TraceView → ℕ → List Start → ℕ → LogFileView DiskView
file_made t seed starts l = record {
  disk = disk_by (take 2 (calls_of t l));
  header = new_header t seed l;
  end = (slice_index_or starts l (record { calls = 0; end = 0 })).end;
  last = start;
  count = 0;
  number = 0;
  failed = false;
}

module _ (life : Life) (t : TraceView) (seed : ℕ) (starts : List Start) (of : IsTraceOf life t) (base : life.plan.base ≡ 0) (seeded : life.seed ≡ seed)
    (made : (l : ℕ) → l < length t.disks → (d : Start) → IsMade t seed l (slice_index_or starts l d))
  where
    none : Start
    none = record { calls = 0; end = 0 }

    headers : (l : ℕ) → new_header t seed l ≡ header_of life l
    headers l = λ i. header_of_version (sym of.version i) l (of.loggers i) (of.scale i) (sym seeded i)

    are_starts : AreStarts life t starts (file_made t seed starts)
    unfolding file_made none
    are_starts l lt d = record {
      calls = ap length (made_story t seed l (slice_index_or starts l d) (made l lt d)) ∙ sym (made l lt d).calls;
      end = same_end (made l lt none).end (made l lt d).end;
      scale = refl;
      mark = sym base;
      count = refl;
    }
      where
        same_end : {a b n : ℕ} → a + 1 ≡ n → b + 1 ≡ n → a ≡ b
        same_end x y = omega (arith, x, y)

    is_first : life.past ≡ 0 → 0 < length t.disks → IsFirst life (file_made t seed starts)
    unfolding file_made none
    is_first past some = record {
      base = base;
      past = past;
      some = omega (arith, some, of.loggers);
      created = λ l lt. let within : l < length t.disks = omega (arith, lt, of.loggers) in record {
        header = headers l;
        count = refl;
        number = refl;
        near = omega arith;
        stands = subst (λ (h : HeaderView). Stands h [] (slice_index_or starts l none).end start (disk_by (take 2 (calls_of t l))).seen (disk_by (take 2 (calls_of t l))).story)
            (headers l) (made_stands t seed l (slice_index_or starts l none) (made l within none));
      };
    }

    of_first : (steps : List Step) → life.past ≡ 0 → 0 < length t.disks
        → MayBeTakenInTurn life t (opening life.plan (file_made t seed starts)) steps → AreOfFirstLife life t steps
    unfolding file_made none
    of_first steps past some taken = record {
      files = file_made t seed starts;
      first = is_first past some;
      made = λ l lt. omega (arith, slice_get_within (calls_of t l) 1 Sync (made l lt none).syncs);
      disks = λ l lt. refl;
      taken = taken;
    }

    pub first_steps : (steps : List Step) → life.past ≡ 0 → 0 < length t.disks
        → ((files : ℕ → LogFileView DiskView) → AreStarts life t starts files → MayBeTakenInTurn life t (opening life.plan files) steps)
        → AreOfFirstLife life t steps
    first_steps steps past some all = of_first steps past some (all (file_made t seed starts) are_starts)

-- what the checker says of any files, of those that were made
pub of_answer : {E : Type 0} (t : TraceView) (seed : ℕ) (starts : List Start) (steps : List Step) (r : Result Bool E) → 0 < length t.disks
    → ((l : ℕ) → l < length t.disks → (d : Start) → IsMade t seed l (slice_index_or starts l d))
    → IfOk r (λ accepted. (life : Life) (files : ℕ → LogFileView DiskView) → IsTraceOf life t → life.plan.base ≡ 0 → AreStarts life t starts files
    → IsTrue accepted ↔ MayBeTakenInTurn life t (opening life.plan files) steps)
    → IfOk r (λ accepted. (life : Life) → IsTraceOf life t → life.plan.base ≡ 0 → life.past ≡ 0 → life.seed ≡ seed → IsTrue accepted
    → AreOfFirstLife life t steps)
of_answer t seed starts steps (Ok b) some made h = λ life of base past seeded accepted.
    first_steps life t seed starts of base seeded made steps past some (λ files are. (h life files of base are).0 accepted)
of_answer t seed starts steps (Err e) some made h = tt
