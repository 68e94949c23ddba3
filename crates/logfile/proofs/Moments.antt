-- What a crash leaves at each moment of some calls, joined from what it leaves at those of each.
use Rattle.std.proofs.Common.{◌≡◌, ℕ, List, [], ◌∷◌, ◌++◌, sym, ap, ◌∙◌, subst, append_assoc, ⊎_elim, true≢false}
use Rattle.std.specs.Prelude.{Result, Ok, Err, IsErr}
use Rattle.money.specs.declared.refusal.Refusal.{Refusal}
use Rattle.log_disk.specs.Calls.{Call, Wrote, Synced, WriteLeft, SyncLeft}
use Rattle.log_disk.specs.Crashes.{Torn, MayLeave, Leaves, LeavesThrough, LeavesOnly}
use Rattle.logfile.specs.Staged.{IsSettled}
use Rattle.logfile.proofs.Tearing.{torn_not}

-- what is weaker, through later calls and whole
through_wider : (P Q : List ℕ → Type 0) (old later : List Call) → ((bytes : List ℕ) → P bytes → Q bytes)
    → LeavesThrough P old later → LeavesThrough Q old later
through_wider P Q old [] wider each = λ bytes may. wider bytes (each bytes may)
through_wider P Q old (call ∷ later) wider each =
    ((λ bytes may. wider bytes (each.0 bytes may)), through_wider P Q old later wider each.1)

pub only_wider : (P Q : List ℕ → Type 0) (old new : List Call) → ((bytes : List ℕ) → P bytes → Q bytes)
    → LeavesOnly P old new → LeavesOnly Q old new
only_wider P Q old new wider only = record {
  later = only.later;
  goes_on = only.goes_on;
  each = through_wider P Q old only.later wider only.each;
}

-- calls, and others after them, through later calls and whole
through_joined : (P : List ℕ → Type 0) (old mid more later : List Call) → mid ≡ more ++ old
    → LeavesThrough P old more → LeavesThrough P mid later → LeavesThrough P old (later ++ more)
through_joined P old mid more [] is first second = first
through_joined P old mid more (call ∷ later) is first second =
    let e : call ∷ (later ++ mid) ≡ call ∷ (later ++ more ++ old) =
    ap (λ (story : List Call). call ∷ story) (ap (λ (story : List Call). later ++ story) is ∙ sym (append_assoc later more old)) in
    (subst (Leaves P) e second.0, through_joined P old mid more later is first second.1)

pub only_joined : (P : List ℕ → Type 0) (old mid new : List Call) → LeavesOnly P old mid → LeavesOnly P mid new → LeavesOnly P old new
only_joined P old mid new first second = record {
  later = second.later ++ first.later;
  goes_on = second.goes_on ∙ ap (λ (story : List Call). second.later ++ story) first.goes_on
      ∙ sym (append_assoc second.later first.later old);
  each = through_joined P old mid first.later second.later first.goes_on first.each second.each;
}

-- the last moment, through later calls and whole
through_last : (P : List ℕ → Type 0) (old later : List Call) → LeavesThrough P old later → Leaves P (later ++ old)
through_last P old [] each = each
through_last P old (call ∷ later) each = each.0

pub only_last : (P : List ℕ → Type 0) (old new : List Call) → LeavesOnly P old new → Leaves P new
only_last P old new only = subst (Leaves P) (sym only.goes_on) (through_last P old only.later only.each)

-- no call, or one
only_same : (P : List ℕ → Type 0) (old new : List Call) → Leaves P old → new ≡ old → LeavesOnly P old new
only_same P old new leaves is = record { later = []; goes_on = is; each = leaves }

only_one : (P : List ℕ → Type 0) (old new : List Call) (call : Call) → Leaves P old → Leaves P (call ∷ old) → new ≡ call ∷ old
    → LeavesOnly P old new
only_one P old new call leaves then is = record { later = call ∷ []; goes_on = is; each = (then, leaves) }

-- a write, at each of its results
wrote : {T : Type 0} (P : List ℕ → Type 0) (result : Result T Refusal) (at n : ℕ) (old new : List Call) → Leaves P old
    → Leaves P (Wrote at n ∷ old) → WriteLeft result at n old new → LeavesOnly P old new
wrote P (Ok done) at n old new before after left = only_one P old new (Wrote at n) before after left
wrote P (Err refusal) at n old new before after left =
    ⊎_elim (λ is. only_same P old new before is) (λ is. only_one P old new (Wrote at n) before after is) left

-- a write on a settled disk
pub wrote_left : {T : Type 0} (result : Result T Refusal) (at n : ℕ) (seen : List ℕ) (old new : List Call) → IsSettled seen old
    → WriteLeft result at n old new → LeavesOnly (Torn at n seen) old new
wrote_left result at n seen old new settled left =
    wrote (Torn at n seen) result at n old new
    (λ bytes may. subst (Torn at n seen) (sym (settled bytes may)) (torn_not at n seen))
    (λ bytes may. subst (λ (d : List ℕ). Torn at n d bytes) (settled may.0 may.1) may.2)
    left

-- a sync, at each of its results
pub synced_left : {T : Type 0} (P : List ℕ → Type 0) (result : Result T Refusal) (seen : List ℕ) (old new : List Call) → Leaves P old
    → P seen → SyncLeft result seen old new → LeavesOnly P old new
synced_left P (Ok done) seen old new before after left =
    only_one P old new (Synced seen) before (λ bytes may. subst P (sym may) after) left
synced_left P (Err refusal) seen old new before after left = only_same P old new before left

-- what a crash may leave before a write, it may leave after it
pub wrote_may : {T : Type 0} (result : Result T Refusal) (at n : ℕ) (seen : List ℕ) (old new : List Call) → MayLeave old seen
    → WriteLeft result at n old new → MayLeave new seen
wrote_may (Ok done) at n seen old new may left = subst (λ (story : List Call). MayLeave story seen) (sym left) (seen, may, torn_not at n seen)
wrote_may (Err refusal) at n seen old new may left =
    ⊎_elim (λ is. subst (λ (story : List Call). MayLeave story seen) (sym is) may)
    (λ is. subst (λ (story : List Call). MayLeave story seen) (sym is) (seen, may, torn_not at n seen)) left

-- and after a sync that fails
pub synced_may : {T : Type 0} (result : Result T Refusal) (seen now : List ℕ) (old new : List Call) → MayLeave old seen
    → SyncLeft result now old new → IsErr result → MayLeave new seen
synced_may (Ok done) seen now old new may left err = absurd (true≢false (sym err))
synced_may (Err refusal) seen now old new may left err = subst (λ (story : List Call). MayLeave story seen) (sym left) may

-- a write and a sync
pub put_left : {T U : Type 0} (written : Result T Refusal) (synced : Result U Refusal) (at n : ℕ) (seen now : List ℕ)
    (old mid new : List Call) → IsSettled seen old → Torn at n seen now → WriteLeft written at n old mid
    → SyncLeft synced now mid new → LeavesOnly (Torn at n seen) old new
put_left written synced at n seen now old mid new settled torn wrote after =
    let first = wrote_left written at n seen old mid settled wrote in
    let second = synced_left (Torn at n seen) synced now mid new (only_last (Torn at n seen) old mid first) torn after in
    only_joined (Torn at n seen) old mid new first second
