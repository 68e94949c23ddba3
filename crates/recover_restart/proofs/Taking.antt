-- Strings that a crash leaves over the lives of a database, as a restart takes them.
use Rattle.std.proofs.Common.{◌≡◌, inl, inr, ℕ, ◌+◌, ◌<◌, ◌≤◌, List, [], length, get_or, sym, ◌∙◌, subst, arith}
use Rattle.tables.specs.Database.{Database}
use Rattle.tables.specs.Reach.{IsInReach}
use Rattle.tables.specs.Sizes.{Sizes}
use Rattle.tables.specs.declared.limits.TheConstants.{MAX_COMMITS}
use Rattle.book.specs.Base.{AreReached}
use Rattle.book.specs.History.{IsLegal, replay}
use Rattle.book.specs.declared.entry.Entry.{Entry}
use Rattle.log_header.specs.Header.{header_of_version}
use Rattle.log_header.specs.declared.header.TheConstants.{VERSION}
use Rattle.log_text.specs.Bodies.{BodyView}
use Rattle.log_text.specs.File.{IsFile}
use Rattle.recover_found.specs.Found.{found}
use Rattle.recover_found.specs.Rebuilt.{HaveNoGap, IsRebuilt}
use Rattle.recover_files.specs.Files.{AreFiles}
use Rattle.recover_files.proofs.SameFiles.{same_files}
use Rattle.recover_laws.specs.Found.{durable_cut, listed}
use Rattle.recover_laws.specs.Recovered.{GiveTheReplay, IsFirstDatabase}
use Rattle.recover_laws.proofs.Joined.{length_listed, listed_at}
use Rattle.recover_lives.specs.Surviving.{LeavesTheReplay}
use Rattle.recover_lives.specs.World.{Origin, Lives, header_at, joined_history}
use Rattle.recover_sound.specs.Sound.{AreSoundTables}
use Rattle.recover_restart.specs.Basing.{AreUnsound}
use Rattle.recover_restart.specs.Restarting.{AreDamagedOrUnsound, AreFilesThat, AreTakenUp, HaveAGap}

-- the laws on commits that were recovered, and on replays
abbrev pub CommitsAreWithinTheCap : Type 0
CommitsAreWithinTheCap = (s : Sizes) (seed : ℕ) (strings : List (List ℕ)) (files : List (List BodyView))
    → AreFiles s seed strings files → HaveNoGap (found files) → length (found files) ≤ s.commits

abbrev pub ReplaysAreReached : Type 0
ReplaysAreReached = (past : ℕ) (t0 t : Database) (history : List Entry) → past + length history ≤ MAX_COMMITS
    → AreReached past t0 → IsLegal past t0 history t
    → AreReached (past + length history) t × AreSoundTables (past + length history) t

module _ (within_cap : CommitsAreWithinTheCap) (reached : ReplaysAreReached) (t0 : Database) (seed : ℕ)
    (begins : IsFirstDatabase t0) (reach : IsInReach 0 t0) (strings : List (List ℕ)) (left : List (List BodyView))
    (are : AreFiles t0.scale seed strings left) (history : List Entry) (give : GiveTheReplay t0 left history)
    (legal : IsLegal 0 t0 (durable_cut left history) (replay t0 (durable_cut left history))) where
  -- tables that are rebuilt of what counts are its replay, and so sound
  are_sound : (t : Database) → IsRebuilt t0 (found left) t → AreSoundTables (length (found left)) t
  are_sound t rebuilt =
      let cut : List Entry = durable_cut left history in
      let few : length (found left) ≤ t0.scale.commits = within_cap t0.scale seed strings left are give.no_gap in
      let first : AreReached 0 t0 = record { well_formed = begins.well_formed; consistent = begins.consistent; reach = reach } in
      let all : AreSoundTables (0 + length cut) (replay t0 cut)
      = (reached 0 t0 (replay t0 cut) cut (omega (arith, few, give.as_many, begins.scale.commits.1)) first legal).1 in
      subst (AreSoundTables (length (found left))) (sym (give.is_replay t rebuilt))
      (subst (λ (n : ℕ). AreSoundTables n (replay t0 cut)) (omega (arith, give.as_many)) all)

  undamaged : AreDamagedOrUnsound t0 seed strings → ⊥
  undamaged (inl none) = none left are
  undamaged (inr unsound) =
      let here : AreUnsound t0 left
      = subst (AreUnsound t0) (same_files t0 seed strings left are unsound.files unsound.short unsound.read) unsound.holds.tables in
      here.unsound (are_sound here.tables here.rebuilt)

  no_gap : AreFilesThat t0.scale seed strings HaveAGap → ⊥
  no_gap gap = gap.holds (subst (λ (files : List (List BodyView)). HaveNoGap (found files))
      (sym (same_files t0 seed strings left are gap.files gap.short gap.read)) give.no_gap)

  pub are_taken : AreTakenUp t0 seed strings
  are_taken = record { undamaged = undamaged; no_gap = no_gap }

module _ (o : Origin) (w : Lives) (strings : ℕ → List ℕ) (leaves : LeavesTheReplay o w strings)
    (today : o.version ≡ VERSION) where
  -- they are the files that the crash leaves
  are_files : AreFiles o.first.scale o.seed (listed o.loggers strings) leaves.left
  are_files =
      let count : length (listed o.loggers strings) ≡ o.loggers = length_listed o.loggers strings in
      record {
        count = leaves.count ∙ sym count;
        each = λ l less.
            let within : l < o.loggers = subst (λ (n : ℕ). l < n) count less in
            subst (λ (v : ℕ). IsFile (get_or (listed o.loggers strings) l [])
            (header_of_version v l (length (listed o.loggers strings)) o.first.scale o.seed) (get_or leaves.left l [])) today
            (subst (λ (n : ℕ). IsFile (get_or (listed o.loggers strings) l []) (header_of_version o.version l n o.first.scale o.seed)
            (get_or leaves.left l [])) (sym count)
            (subst (λ (t : List ℕ). IsFile t (header_at o l) (get_or leaves.left l [])) (sym (listed_at o.loggers strings l [] within))
            (leaves.files l within)));
      }

  pub takes : CommitsAreWithinTheCap → ReplaysAreReached → IsFirstDatabase o.first → IsInReach 0 o.first
      → AreTakenUp o.first o.seed (listed o.loggers strings)
  takes within_cap reached begins reach = are_taken within_cap reached o.first o.seed begins reach
      (listed o.loggers strings) leaves.left are_files (joined_history w) leaves.give leaves.legal
