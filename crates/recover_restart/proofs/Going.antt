-- What goes on behind files, of the base that they make.
use Rattle.std.proofs.Common.{◌≡◌, ℕ, ◌+◌, ◌<◌, List, Some, length, get_or, sym, ◌∙◌, subst, arith}
use Rattle.tables.specs.Database.{Database, database}
use Rattle.tables.specs.Sizes.{Sizes, IsScale}
use Rattle.tables.specs.WellFormed.{IsWellFormed}
use Rattle.board.specs.Words.{last_epoch}
use Rattle.book.specs.Base.{MayBegin}
use Rattle.book.specs.Parts.{first_of, ArePartsOf}
use Rattle.book.specs.declared.parts.Base.{Base}
use Rattle.book.specs.declared.parts.Parts.{Parts}
use Rattle.log_header.specs.Header.{HeaderView, header_view}
use Rattle.log_text.specs.Bodies.{BodyView, Void, body_after, marked}
use Rattle.logfile.specs.Standing.{LogFileView}
use Rattle.recover_found.specs.Found.{durable_of, found}
use Rattle.recover_found.specs.Rebuilt.{IsRebuilt}
use Rattle.recover_files.specs.Files.{AreFiles}
use Rattle.recover_opening.specs.Tops.{IsTopOfAll, bodies_at}
use Rattle.recover_opening.proofs.VoidFollows.{void_may_follow}
use Rattle.recover_sound.specs.Sound.{AreSoundTables, rows_behind_those_of}
use Rattle.recover_restart.specs.Basing.{IsBaseOf}
use Rattle.recover_restart.specs.Restarting.{GoesOnBehind, MayGiveUp}

-- the law on sound tables
abbrev pub SoundTablesMayBegin : Type 0
SoundTablesMayBegin = (t0 t : Database) (seed : ℕ) (strings : List (List ℕ)) (files : List (List BodyView))
    → IsScale t0.scale → IsWellFormed t0 → AreFiles t0.scale seed strings files
    → IsRebuilt t0 (found files) t → AreSoundTables (length (found files)) t
    → MayBegin t0 t (rows_behind_those_of t0 t) (length (found files))

module _ {t0 : Database} {files : List (List BodyView)} {top : ℕ} {base : Base} (is : IsBaseOf t0 files top base) where
  pub may_begin : SoundTablesMayBegin → (seed : ℕ) (strings : List (List ℕ)) → IsScale t0.scale → IsWellFormed t0
      → AreFiles t0.scale seed strings files → MayBegin t0 (database base.tables) base.rows.items base.commits
  may_begin law seed strings scale well_formed are =
      subst (λ (n : ℕ). MayBegin t0 (database base.tables) base.rows.items n) (sym is.commits)
      (subst (λ rows. MayBegin t0 (database base.tables) rows (length (found files))) (sym is.rows)
      (law t0 (database base.tables) seed strings files scale well_formed are is.rebuilt is.sound))

  pub has_room : base.epoch < last_epoch
  has_room = subst (λ (n : ℕ). n < last_epoch) (sym is.epoch) is.room

  pub goes_on : {seed loggers terminals durable commits : ℕ} {parts : Parts} → durable ≡ durable_of files → IsTopOfAll files top
      → commits ≡ base.commits → ArePartsOf t0 (database base.tables) seed base.commits base.epoch loggers terminals parts
      → GoesOnBehind t0 seed loggers terminals files parts durable top commits
  goes_on {seed} {loggers} {terminals} {durable} {commits} {parts} durable_is is_top commits_is are = record {
    durable_is = durable_is;
    is_top = is_top;
    room = is.room;
    rebuilt = subst (IsRebuilt t0 (found files)) (sym are.first_is) is.rebuilt;
    commits_are = commits_is ∙ is.commits;
    sound = subst (λ (t : Database). AreSoundTables commits t) (sym are.first_is)
        (subst (λ (n : ℕ). AreSoundTables n (database base.tables)) (sym (commits_is ∙ is.commits)) is.sound);
    are_parts = subst (λ (n : ℕ). ArePartsOf t0 (first_of parts) seed commits n loggers terminals parts) is.epoch
        (subst (λ (n : ℕ). ArePartsOf t0 (first_of parts) seed n base.epoch loggers terminals parts) (sym commits_is)
        (subst (λ (t : Database). ArePartsOf t0 t seed base.commits base.epoch loggers terminals parts) (sym are.first_is) are));
  }

-- each file may get the void body
pub may_declare : {D : Type 0} {durable top : ℕ} {files : List (LogFileView D)} → MayGiveUp durable top files
    → durable < top → (l : ℕ) (d : LogFileView D) → l < length files
    → body_after (get_or files l d).header (get_or files l d).last (Void (durable + 1) top) ≡ Some (marked top (get_or files l d).last)
may_declare {durable = durable} {top} {files} may more l d within =
    let s : Sizes = may.first.scale in
    let is = may.behind.each l (omega (arith, within, may.behind.files_count)) d in
    let here = void_may_follow (header_view l may.loggers s may.seed) (length may.bodies) (bodies_at may.bodies) durable top l (get_or files l d).last
    may.goes_on.is_top.is_top more may.goes_on.room (omega (arith, within, may.behind.files_count, may.behind.bodies_count)) is.lawful in
    subst (λ (h : HeaderView). body_after h (get_or files l d).last (Void (durable + 1) top) ≡ Some (marked top (get_or files l d).last))
    (sym is.header) here.0
