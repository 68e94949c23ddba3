-- Beginnings of a history, and the streams in them.
use Rattle.std.proofs.Common.{◌≡◌, ℕ, zero, suc, ◌+◌, ◌-◌, ◌<◌, ◌≤◌, ◌==◌, ◌%◌, Some, List, [], ◌∷◌, ◌++◌, length, take, drop, refl, sym, ap, ◌∙◌, subst, arith}
use Rattle.std.proofs.Common.{length-append}
use Rattle.std.specs.List.{All, slice_get, slice_range}
use Rattle.std.proofs.lemmas.List.{take_more}
use Rattle.std.proofs.lemmas.List.Elements.{filter-append}
use Rattle.std.proofs.lemmas.Option.{slice_get_within, get_or_from_slice_get}
use Rattle.std.proofs.Math.Seq.{drop-append_seam}
use Rattle.book.specs.Streams.{stream}
use Rattle.book.specs.declared.entry.Entry.{Entry}
use Rattle.traces.specs.Told.{TraceView}
use Rattle.traces.specs.Shown.{stream_between}

-- one element more
pub next_taken : {X : Type 0} (xs : List X) (i : ℕ) (x : X) → slice_get xs i ≡ Some x → take i xs ++ x ∷ [] ≡ take (i + 1) xs
next_taken {X = X} xs i x at =
    ap (λ (y : X). take i xs ++ y ∷ []) (sym (get_or_from_slice_get xs i x x at)) ∙ sym (take_more xs i x (slice_get_within xs i x at))

-- what stands in a beginning stands there in the whole
pub get_taken : {X : Type 0} (n i : ℕ) (xs : List X) → i < n → slice_get (take n xs) i ≡ slice_get xs i
get_taken zero i xs lt = absurd (omega (arith, lt))
get_taken (suc n) i [] lt = refl
get_taken (suc n) zero (x ∷ xs) lt = refl
get_taken (suc n) (suc i) (x ∷ xs) lt = get_taken n i xs (omega (arith, lt))

nothing_taken : (X : Type 0) (n : ℕ) → take {A = X} n [] ≡ []
nothing_taken X zero = refl
nothing_taken X (suc n) = refl

-- a longer beginning
pub behind_taken : {X : Type 0} (xs : List X) (from to : ℕ) → from ≤ to → take to xs ≡ take from xs ++ slice_range xs from to
behind_taken {X = X} xs zero to rises = let e : to ≡ to - zero = omega arith in ap (λ (n : ℕ). take n xs) e
behind_taken xs (suc from) zero rises = absurd (omega (arith, rises))
behind_taken {X = X} [] (suc from) (suc to) rises = sym (nothing_taken X (suc to - suc from))
behind_taken {X = X} (x ∷ xs) (suc from) (suc to) rises =
    let e : to - from ≡ suc to - suc from = omega arith in
    ap (λ (l : List X). x ∷ l)
    (behind_taken xs from to (omega (arith, rises)) ∙ ap (λ (n : ℕ). take from xs ++ take n (drop from xs)) e)

-- a stream of a longer beginning
pub stream_behind : (t : TraceView) (logger from to : ℕ) → from ≤ to
    → stream (length t.disks) logger (take to t.history) ≡ stream (length t.disks) logger (take from t.history) ++ stream_between t logger from to
stream_behind t logger from to rises =
    ap (stream (length t.disks) logger) (behind_taken t.history from to rises)
    ∙ filter-append (λ (e : Entry). e.terminal % length t.disks == logger) (take from t.history) (slice_range t.history from to)

-- the rest of it, behind as many as the shorter one has
pub stream_rest : (t : TraceView) (logger from to count : ℕ) → from ≤ to → count ≡ length (stream (length t.disks) logger (take from t.history))
    → drop count (stream (length t.disks) logger (take to t.history)) ≡ stream_between t logger from to
stream_rest t logger from to count rises is =
    let front = stream (length t.disks) logger (take from t.history) in
    ap (λ (n : ℕ). drop n (stream (length t.disks) logger (take to t.history))) is
    ∙ ap (λ (l : List Entry). drop (length front) l) (stream_behind t logger from to rises)
    ∙ drop-append_seam front (stream_between t logger from to)

pub stream_count : (t : TraceView) (logger from to count : ℕ) → from ≤ to → count ≡ length (stream (length t.disks) logger (take from t.history))
    → count + length (stream_between t logger from to) ≡ length (stream (length t.disks) logger (take to t.history))
stream_count t logger from to count rises is =
    let front = stream (length t.disks) logger (take from t.history) in
    ap (λ (n : ℕ). n + length (stream_between t logger from to)) is
    ∙ sym (length-append front (stream_between t logger from to))
    ∙ sym (ap length (stream_behind t logger from to rises))

-- what a test of a beginning tells of the whole list
pub holds_at : {X : Type 0} (P : X → Type 0) (xs : List X) (i : ℕ) (x : X) → All P xs → slice_get xs i ≡ Some x → P x
holds_at P xs i x all at = subst P (get_or_from_slice_get xs i x x at) (all i x (slice_get_within xs i x at))
