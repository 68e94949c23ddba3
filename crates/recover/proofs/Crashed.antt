-- What recovery gives of the files of a history, and of the strings that a crash leaves.
use Rattle.std.proofs.Common.{◌≡◌, ℕ, ◌<◌, ◌≤◌, List, [], length, get_or, sym, ap, ◌∙◌, subst}
use Rattle.tables.specs.Database.{Database, database}
use Rattle.log_header.specs.Header.{header_of_version}
use Rattle.log_text.specs.Bodies.{BodyView}
use Rattle.log_text.specs.File.{IsFile}
use Rattle.book.specs.History.{IsLegal, replay}
use Rattle.book.specs.declared.entry.Entry.{Entry}
use Rattle.recover_found.specs.Found.{durable_of, found}
use Rattle.recover_found.specs.Rebuilt.{HaveNoGap, IsRebuilt}
use Rattle.recover_laws.specs.Found.{durable_cut}
use Rattle.recover_laws.specs.Recovered.{GiveTheReplay}
use Rattle.recover_lives.specs.World.{Origin, header_at, Lives, joined_history, durable_at}
use Rattle.recover_lives.specs.Surviving.{LeavesTheReplay}
use Rattle.recover_files.specs.Files.{AreFilesOf}
use Rattle.recover_files.proofs.SameFiles.{same_files}
use Rattle.recover_files.specs.Recovered.{IsRecovery, HasGap}
use Rattle.recover.specs.Beginning.{AreInTurn, IsReplayOf, IsBeginningOf}
use Rattle.recover.specs.WithoutTexts.{without_texts, IsBeginningWithoutTexts}
use Rattle.recover.proofs.WithoutTexts.{is_replay_without}
use Rattle.recover_files.specs.declared.recovering.Recovered.{Recovered}

-- strings that are the files of one list of bodies
module _ {version : ℕ} (t0 : Database) (seed : ℕ) (strings : List (List ℕ)) (left : List (List BodyView))
    (are : AreFilesOf version t0.scale seed strings left) where
  module _ (history : List Entry) (give : GiveTheReplay t0 left history) where
    pub none_missing : HasGap t0.scale seed strings → ⊥
    none_missing gap = gap.gap (subst (λ (files : List (List BodyView)). HaveNoGap (found files)) (sym (same_files t0 seed strings left are gap.files gap.short gap.read)) give.no_gap)

    pub is_replay : (r : Recovered) → IsRecovery t0 seed strings r → IsReplayOf t0 left history r
    is_replay r is =
        let same : is.files ≡ left = same_files t0 seed strings left are is.files is.short is.read in
        record {
          tables = give.is_replay (database r.tables)
              (subst (λ (files : List (List BodyView)). IsRebuilt t0 (found files) (database r.tables)) same is.of_files.rebuilt);
          commits = is.of_files.commits ∙ ap (λ (files : List (List BodyView)). length (found files)) same ∙ give.as_many;
        }

module _ (o : Origin) (w : Lives) (by_logger : ℕ → List ℕ) (leaves : LeavesTheReplay o w by_logger) (strings : List (List ℕ))
    (turn : AreInTurn o.loggers by_logger strings) where
  -- they are the files that the crash leaves
  pub are_files : AreFilesOf o.version o.first.scale o.seed strings leaves.left
  are_files = record {
    count = leaves.count ∙ sym turn.count;
    each = λ l less.
        let is : IsFile (by_logger l) (header_at o l) (get_or leaves.left l []) = leaves.files l (subst (λ (n : ℕ). l < n) turn.count less) in
        subst (λ (n : ℕ). IsFile (get_or strings l []) (header_of_version o.version l n o.first.scale o.seed) (get_or leaves.left l [])) (sym turn.count)
        (subst (λ (t : List ℕ). IsFile t (header_at o l) (get_or leaves.left l [])) (sym (turn.each l less)) is);
  }

  pub no_gap_left : HasGap o.first.scale o.seed strings → ⊥
  no_gap_left gap = none_missing o.first o.seed strings leaves.left are_files (joined_history w) leaves.give gap

  pub is_beginning : (r : Recovered) → (is : IsRecovery o.first o.seed strings r) → IsBeginningOf o w is.files r
  is_beginning r is =
      let same : is.files ≡ leaves.left = same_files o.first o.seed strings leaves.left are_files is.files is.short is.read in
      let durable : durable_of leaves.left ≡ r.durable = sym (is.of_files.durable ∙ ap durable_of same) in
      subst (λ (files : List (List BodyView)). IsBeginningOf o w files r) (sym same) (record {
        no_less = subst (λ (d : ℕ). durable_at w ≤ d) durable leaves.no_less;
        rest = leaves.rest;
        beginning = leaves.beginning;
        legal = leaves.legal;
        recovered = is_replay o.first o.seed strings leaves.left are_files (joined_history w) leaves.give r is;
        released = leaves.released;
      })

  -- and so of tables with texts, where the lives had none
  module _ (t0 : Database) (first : o.first ≡ without_texts t0) where
    files_of_first : AreFilesOf o.version t0.scale o.seed strings leaves.left
    files_of_first = subst (λ (t : Database). AreFilesOf o.version t.scale o.seed strings leaves.left) first are_files

    pub is_beginning_without : (r : Recovered) → (is : IsRecovery t0 o.seed strings r) → IsBeginningWithoutTexts t0 w is.files r
    is_beginning_without r is =
        let same : is.files ≡ leaves.left = same_files t0 o.seed strings leaves.left files_of_first is.files is.short is.read in
        let durable : durable_of leaves.left ≡ r.durable = sym (is.of_files.durable ∙ ap durable_of same) in
        let cut : List Entry = durable_cut leaves.left (joined_history w) in
        subst (λ (files : List (List BodyView)). IsBeginningWithoutTexts t0 w files r) (sym same) (record {
          no_less = subst (λ (d : ℕ). durable_at w ≤ d) durable leaves.no_less;
          rest = leaves.rest;
          beginning = leaves.beginning;
          legal = subst (λ (t : Database). IsLegal 0 t cut (replay t cut)) first leaves.legal;
          recovered = is_replay_without t0 o.seed strings leaves.left files_of_first (joined_history w)
              (subst (λ (t : Database). GiveTheReplay t leaves.left (joined_history w)) first leaves.give) r is;
          released = leaves.released;
        })
