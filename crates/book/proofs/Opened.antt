-- A run that begins is sound.
use Rattle.std.proofs.Common.{◌≡◌, ℕ, ◌+◌, ◌-◌, ◌<◌, ◌≤◌, Option, Some, None, List, [], ◌∷◌, length, replicate, refl, sym, ap, ◌∙◌, subst, arith}
use Rattle.std.proofs.lemmas.List.Elements.{All-nil}
use Rattle.std.proofs.lemmas.List.{length-replicate, get_or-replicate}
use Rattle.std.specs.Prelude.{slice_index}
use Rattle.tables.specs.Database.{Database}
use Rattle.tables.specs.Rows.{rows}
use Rattle.tables.specs.Conditions.{IsConsistent}
use Rattle.tables.specs.WellFormed.{IsWellFormed, HasRoom}
use Rattle.tables.specs.declared.limits.TheConstants.{MAX_COMMITS}
use Rattle.cells.specs.First.{first_version}
use Rattle.cells.specs.Versions.{tid, last_tid, value_in}
use Rattle.readset.proofs.CellsOf.{count_of}
use Rattle.cells.specs.Records.{at, cell_count}
use Rattle.tables_laws.proofs.NamesKept.{IsOf-itself}
use Rattle.book.specs.Book.{IsSound}
use Rattle.book.specs.Ready.{IsTidWithin, IsPassed, IsFree, IsReady, AreLast}
use Rattle.book.specs.Parts.{AreUnwritten}
use Rattle.book.specs.declared.parts.Records.{Records}
use Rattle.encoding.proofs.Positions.{first_value}
use Rattle.book.proofs.Sound.{last_one}

first_free : (w : Option (List ℕ)) → IsFree (slice_index (first_version w) 0)
first_free (Some words) = record { unlocked = refl; latest = refl }
first_free None = record { unlocked = refl; latest = refl }

first_tid : (w : Option (List ℕ)) → tid (first_version w) ≡ 0
first_tid (Some words) = omega arith
first_tid None = omega arith

within_first : (epoch tid : ℕ) → tid ≡ 0 → IsTidWithin epoch 0 tid
within_first epoch tid none = subst (IsTidWithin epoch 0) (sym none) (record { bits = omega arith; in_epoch = omega arith; sequence = omega arith })

none : (n : ℕ) → n ≡ n + 0
none n = omega arith

-- no terminal has committed
pub first_lasts : {terminals count : ℕ} {lasts : List ℕ} → lasts ≡ replicate count 0 → count ≡ terminals → AreLast terminals [] lasts
first_lasts {count = count} none all = record {
  count = ap length none ∙ length-replicate count 0 ∙ all;
  last = λ terminal h. subst (λ (l : List ℕ). slice_index l terminal ≡ 0) (sym none)
      (get_or-replicate count terminal 0 _ (subst (λ n. terminal < n) (ap length none ∙ length-replicate count 0) h));
}

module _ {t0 : Database} {made : Records} {terminals : ℕ} (are : AreUnwritten t0 terminals made) where
  first : (n : ℕ) → n < cell_count made.cells → at made.pen.all n ≡ first_version (rows t0 n) ∷ []
  first n h = are.versions n (subst (λ m. n < m) (count_of t0.scale made.cells are.count) h)

  pub first_sound : (past : ℕ) → IsWellFormed t0 → IsConsistent t0 → IsSound past t0 made.pen [] t0
  first_sound past well_formed consistent = record {
    legal = record { replays = tt; end = refl };
    stamped = tt;
    well_formed = well_formed;
    consistent = consistent;
    versions = are.versions;
    latest = λ n h v e. ap value_in (last_one e.0 [] v (first_version (rows t0 n)) (sym e.1 ∙ are.versions n h)) ∙ first_value (rows t0 n);
  }

  pub first_ready : (past epoch : ℕ) → HasRoom (MAX_COMMITS - past) t0 → past ≤ t0.scale.commits → t0.scale.commits ≤ MAX_COMMITS
      → IsReady past t0 made.cells epoch made.pen [] t0
  first_ready past epoch room cap few = record {
    of_population = IsOf-itself t0;
    cells = are.cells;
    count = are.count;
    passed = All-nil (IsPassed epoch made.pen []);
    records = λ n h. within_first epoch (last_tid (at made.pen.all n)) (ap last_tid (first n h) ∙ first_tid (rows t0 n));
    terminals = λ terminal. within_first epoch 0 refl;
    free = λ n h v e. subst (λ (u : List ℕ). IsFree (slice_index u 0)) (sym (last_one e.0 [] v (first_version (rows t0 n)) (sym e.1 ∙ first n h)))
        (first_free (rows t0 n));
    cap = omega (arith, cap);
    few = few;
    room = subst (λ n. HasRoom (MAX_COMMITS - n) t0) (none past) room;
  }
