-- What each kind of step tells its seat, of the word that it loads or stores (`word`), what it finds or stores there,
-- and the seat before and after.
use Rattle.std.specs.Prelude.{◌≡◌, ◌≢◌, ℕ, ◌+◌, ◌/◌, ◌%◌, List, [], ◌∷◌, ◌++◌, map, slice_index, slice_set}
use Rattle.cells_pages.specs.declared.rule.View.{View}
use Rattle.cells_pages.specs.Versions.{Versions, AllVersions, StartsWith, EndsWith, AreVersions, newest, word_in}
use Rattle.cells_pages.specs.Versions.{at}
use Rattle.cells_pages.specs.Views.{pen_view, writing, told_pen, sight, reading}

-- a reader begins to load a record
abbrev pub BeginsOf : ℕ → ℕ → View → ℕ → View → Type 0
BeginsOf n word v found w = (begun : Versions) × (w ≡ reading v.seen v.loads (word / n) begun (found ∷ []))

-- and loads its next word
abbrev pub FollowsOf : View → ℕ → View → Type 0
FollowsOf v found w = w ≡ reading v.seen v.loads v.place v.begun (v.bits ++ found ∷ [])

-- a reader that had seen these versions and loaded this often has then seen the versions of the record at a place, of
-- which these words are the last, by one load more
pub record IsLoaded (n place : ℕ) (seen : AllVersions) (loads bits : List ℕ) (w : View) : Type 0 where
  pub versions : Versions
  pub view : w ≡ sight (slice_set seen place versions) (slice_set loads place (slice_index loads place + 1))
  pub grows : StartsWith versions (at seen place)
  pub sound : AreVersions n versions
  pub last : EndsWith versions bits

-- it loads the first word again: the same stands for the same version
abbrev pub ChecksOf : ℕ → View → ℕ → View → Type 0
ChecksOf n v found w = (found ≡ word_in v.bits → IsLoaded n v.place v.seen v.loads v.bits w)
    × (found ≢ word_in v.bits → w ≡ sight v.seen v.loads)

-- the pen, which stores no version, loads a word of a record
abbrev pub ShowsOf : ℕ → ℕ → View → ℕ → View → Type 0
ShowsOf n word v found w = let versions = at v.seen (word / n) in
    (w ≡ v) × (found ≡ slice_index (newest versions) (word % n)) × AreVersions n versions

-- the pen marks the record at a place
abbrev pub OpensOf : ℕ → ℕ → View → ℕ → View → Type 0
OpensOf n word v stored w = let versions = at v.seen (word / n) in
    (w ≡ writing v.seen (word / n) (slice_set (newest versions) 0 stored)) × AreVersions n versions

-- it loads a word of the record that it has marked
abbrev pub LooksOf : ℕ → ℕ → View → ℕ → View → Type 0
LooksOf n word v found w = (w ≡ v) × (found ≡ slice_index v.next (word % n))

-- it stores a word of that record
abbrev pub PutsOf : ℕ → ℕ → View → ℕ → View → Type 0
PutsOf n word v stored w = w ≡ writing v.seen v.place (slice_set v.next (word % n) stored)

-- it stores the first word, by which the version is there
abbrev pub PublishesOf : View → ℕ → View → Type 0
PublishesOf v stored w =
    w ≡ pen_view (slice_set v.seen v.place (at v.seen v.place ++ slice_set v.next 0 stored ∷ []))

-- the pen loads the first word of the record at a place, and what it was told of the record's versions turns out to be
-- the first of them
pub record ComparesOf (n word : ℕ) (v : View) (found : ℕ) (w : View) : Type 0 where
  pub place : w ≡ told_pen v.seen v.told v.told_loads (word / n)
  pub newest : found ≡ word_in (newest (at v.seen (word / n)))
  pub grows : StartsWith (at v.seen (word / n)) (at v.told (word / n))
  pub sound : AreVersions n (at v.seen (word / n))

-- what a new reader knows where the pen knows this
abbrev pub starting : View → View
starting v = sight v.seen (map (λ _. 0) v.seen)

-- the pen once it was told what a reader knows
abbrev pub heard : View → View → View
heard v u = told_pen v.seen u.seen u.loads 0

-- what that reader knows once it has also seen all versions of the record at the pen's place
abbrev pub having_met : View → View
having_met v = sight (slice_set v.told v.place (at v.seen v.place)) v.told_loads
