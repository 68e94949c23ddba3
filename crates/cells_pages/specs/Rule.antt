-- The rule of one page: what holds of its words and of what its seats know, between any two steps. A record has n words.
use Rattle.std.specs.Prelude.{◌≡◌, ◌≢◌, ℕ, zero, suc, ◌+◌, ◌*◌, ◌/◌, ◌%◌, ◌<◌, Bool, true, List, [], ◌∷◌, length, take, drop}
use Rattle.std.specs.Prelude.{slice_index}
use mathlib.Core.Option.{some}
use lib.ListN.{get_elem?}
use Rattle.atomic_table.specs.Table.{State}
use Rattle.cells_pages.specs.declared.rule.View.{View}
use Rattle.cells_pages.specs.Versions.{AllVersions, StartsWith, AreVersions, newest, word_in}
use Rattle.cells_pages.specs.Versions.{at}

-- what a page has: all versions of each record, whether the pen stores one, and then at which place, where these words
-- now stand
pub record Content : Type 0 where
  pub all : AllVersions
  pub busy : Bool
  pub place : ℕ
  pub next : List ℕ

-- no version is being stored at this place
abbrev pub IsAtRest : Content → ℕ → Type 0
IsAtRest c place = c.busy ≡ true → place ≢ c.place

-- these words stand at this place
abbrev pub HasWords : ℕ → List ℕ → ℕ → List ℕ → Type 0
HasWords n words place record_words = (i : ℕ) → i < n
    → slice_index words (place * n + i) ≡ slice_index record_words i

-- while a version is being stored at a place, its first word is odd
pub record IsBeingStored (n : ℕ) (words : List ℕ) (c : Content) : Type 0 where
  pub within : c.place < length c.all
  pub wide : length c.next ≡ n
  pub odd : word_in c.next % 2 ≡ 1
  pub has : HasWords n words c.place c.next

-- these are the words of a page with this content: where no version is being stored, the newest one stands
pub record IsContent (n : ℕ) (words : List ℕ) (c : Content) : Type 0 where
  pub wide : length words ≡ length c.all * n
  pub sound : (q : ℕ) → q < length c.all → AreVersions n (at c.all q)
  pub rests : (q : ℕ) → q < length c.all → IsAtRest c q → HasWords n words q (newest (at c.all q))
  pub opens : c.busy ≡ true → IsBeingStored n words c

-- one seat fits the content. It has seen, and was told of, the first versions of each record; the pen, of which there
-- is one, knows all and what it stores; and what a reader has loaded since it began at a place is the newest version
-- that the place had then, if no version was stored there since
pub record Fits (n seat : ℕ) (c : Content) (by : ℕ) (v : View) : Type 0 where
  pub size : 0 < length v.seen → length v.seen ≡ length c.all
  pub told_size : 0 < length v.told → length v.told ≡ length c.all
  pub seen : (q : ℕ) → StartsWith (at c.all q) (at v.seen q)
  pub told : (q : ℕ) → StartsWith (at c.all q) (at v.told q)
  pub pen : v.pen ≡ true → (by ≡ seat) × (v.seen ≡ c.all) × (v.busy ≡ c.busy)
      × (c.busy ≡ true → (v.place ≡ c.place) × (v.next ≡ c.next))
  pub begun : StartsWith (at c.all v.place) v.begun
  pub head : word_in v.bits % 2 ≡ 0 → word_in v.bits ≡ word_in (newest v.begun)
  pub sound : 0 < length v.bits → AreVersions n v.begun
  pub fresh : at c.all v.place ≡ v.begun → IsAtRest c v.place → (i : ℕ) → i < length v.bits
      → slice_index v.bits i ≡ slice_index (newest v.begun) i

-- the rule
pub record KeepsPage (n : ℕ) (s : State (Unit {0}) View) : Type 0 where
  pub seat : ℕ
  pub content : Content
  pub words : IsContent n s.words content
  pub fits : (by : ℕ) (v : View) → get_elem? s.views by ≡ some v → Fits n seat content by v

-- the versions of a new page: each record has one, whose words stand there
abbrev pub versions_from : ℕ → ℕ → List ℕ → AllVersions
versions_from n zero words = []
versions_from n (suc count) words = (take n words ∷ []) ∷ versions_from n count (drop n words)

abbrev pub first_versions : ℕ → List ℕ → AllVersions
first_versions n words = versions_from n (length words / n) words
