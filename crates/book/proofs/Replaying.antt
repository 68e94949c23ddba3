-- A history that is replayed.
use Rattle.std.proofs.Common.{◌≡◌, ℕ, suc, ◌+◌, List, [], ◌∷◌, ◌++◌, length, refl, sym, ap, ◌∙◌, arith, add-zero}
use Rattle.std.proofs.lemmas.List.{append-nil, append_assoc}
use Rattle.tables.specs.Database.{Database}
use Rattle.tables.specs.Apply.{after}
use Rattle.tables.specs.Constant.{IsOf}
use Rattle.tables_laws.proofs.NamesKept.{IsOf-itself}
use Rattle.tables_laws.proofs.Kept.{after-IsOf}
use Rattle.readset.specs.Writes.{added}
use Rattle.book.specs.History.{replay, rows_added, CommitsAt, Replays}
use Rattle.book.specs.declared.entry.Entry.{Entry}

-- one entry more
pub replay_push : (t : Database) (es : List Entry) (e : Entry) → replay t (es ++ e ∷ []) ≡ after (replay t es) e.input
replay_push t [] e = refl
replay_push t (f ∷ es) e = replay_push (after t f.input) es e

pub replays_push : (n : ℕ) (t : Database) (es : List Entry) (e : Entry) → Replays n t es → e.number ≡ n + length es
    → CommitsAt (replay t es) e.input e.writes e.reply → Replays n t (es ++ e ∷ [])
replays_push n t [] e h number done = (number ∙ add-zero n, done, tt)
replays_push n t (f ∷ es) e h number done = (h.0, h.1, replays_push (n + 1) (after t f.input) es e h.2 (number ∙ shifted n (length es)) done)
  where
    shifted : (n m : ℕ) → n + suc m ≡ n + 1 + m
    shifted n m = omega arith

-- the last entry is done where the others lead
pub replays_last : (n : ℕ) (t : Database) (es : List Entry) (e : Entry) → Replays n t (es ++ e ∷ []) → CommitsAt (replay t es) e.input e.writes e.reply
replays_last n t [] e h = h.1
replays_last n t (f ∷ es) e h = replays_last (n + 1) (after t f.input) es e h.2

-- no transaction changes the scale, nor a column that never changes
replay-of : (t0 t : Database) (es : List Entry) → IsOf t0 t → IsOf t0 (replay t es)
replay-of t0 t [] of = of
replay-of t0 t (e ∷ es) of = replay-of t0 (after t e.input) es (after-IsOf t0 t e.input of)

pub replay-IsOf : (t : Database) (es : List Entry) → IsOf t (replay t es)
replay-IsOf t es = replay-of t t es (IsOf-itself t)

pub replay-scale : (t : Database) (es : List Entry) → (replay t es).scale ≡ t.scale
replay-scale t es = (replay-IsOf t es).scale

-- HISTORY gets the rows that the entries add
pub replay-history : (n : ℕ) (t : Database) (es : List Entry) → Replays n t es → (replay t es).history ≡ t.history ++ rows_added es
replay-history n t [] h = sym (append-nil t.history)
replay-history n t (e ∷ es) h =
    replay-history (n + 1) (after t e.input) es h.2
    ∙ ap (λ l. l ++ rows_added es) h.1.commit.history
    ∙ append_assoc t.history (added e.writes.history_row) (rows_added es)
