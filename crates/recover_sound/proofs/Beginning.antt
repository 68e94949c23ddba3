-- Which tables a run may begin with.
use Rattle.std.proofs.Common.{ℕ, ◌≤◌, List, length, IsSome, refl, sym, subst, arith}
use Rattle.tables.specs.Database.{Database}
use Rattle.tables.specs.Sizes.{Sizes, IsScale}
use Rattle.tables.specs.WellFormed.{IsWellFormed}
use Rattle.tables.specs.declared.rows.History.{History}
use Rattle.tables_laws.proofs.Reaching.{room_left}
use Rattle.book.specs.Base.{AreReached, HasBecome, MayBegin}
use Rattle.log_text.specs.Bodies.{BodyView}
use Rattle.recover_found.specs.Found.{found}
use Rattle.recover_found.specs.Rebuilt.{IsRebuilt}
use Rattle.recover_files.specs.Files.{AreFiles}
use Rattle.recover_sound.specs.Sound.{AreSoundTables, rows_behind_those_of}
use Rattle.recover_sound.proofs.Capped.{commits_within_cap}
use Rattle.recover_sound.proofs.Lawful.{well_formed_where, become}

pub may_begin : (t0 t : Database) (rows : List History) (commits : ℕ) → IsScale t0.scale
    → commits ≤ t0.scale.commits → HasBecome t0 t rows → AreReached commits t → MayBegin t0 t rows commits
may_begin t0 t rows commits scale within of reached = record {
  become = of;
  well_formed = reached.well_formed;
  consistent = reached.consistent;
  room = room_left commits t (omega (arith, within, scale.commits.1)) reached.reach;
  cap = subst (λ (s : Sizes). commits ≤ s.commits) (sym of.of_population.scale) within;
}

pub sound_may_begin : (t0 t : Database) (seed : ℕ) (strings : List (List ℕ)) (files : List (List BodyView))
    → IsScale t0.scale → IsWellFormed t0 → AreFiles t0.scale seed strings files → IsRebuilt t0 (found files) t
    → AreSoundTables (length (found files)) t
    → MayBegin t0 t (rows_behind_those_of t0 t) (length (found files))
sound_may_begin t0 t seed strings files scale wf are rebuilt sound =
    may_begin t0 t (rows_behind_those_of t0 t) (length (found files)) scale
    (commits_within_cap t0.scale seed strings files are (rebuilt.commits, rebuilt.in_order))
    (become t0 t seed strings files wf are rebuilt) (record {
      well_formed = (well_formed_where t0 t seed strings files wf are rebuilt).1 sound.belong;
      consistent = sound.consistent;
      reach = sound.reach;
    })

-- well-formed, consistent tables in reach are sound
pub reached_are_sound : (commits : ℕ) (t : Database) → AreReached commits t → AreSoundTables commits t
reached_are_sound commits t reached = record {
  belong = record {
    new_orders = λ k r is. reached.well_formed.new_order_orders k (subst IsSome (sym is) refl);
    lines = reached.well_formed.line_orders;
  };
  reach = reached.reach;
  consistent = reached.consistent;
}
