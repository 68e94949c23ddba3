-- Log files that are whole, disk after disk.
use Rattle.std.proofs.Common.{◌≡◌, ℕ, ◌+◌, ◌<◌, List, [], map, length, get_or, set, sym, ◌∙◌, subst, arith, below_more}
use Rattle.std.proofs.lemmas.List.{get_or-map, length-set}
use Rattle.std.proofs.Math.Seq.{map-set_same}
use Rattle.tables.specs.Sizes.{Sizes}
use Rattle.log_disk.specs.Calls.{Call, OnlyReads}
use Rattle.log_header.specs.Header.{HeaderView, header_of_version}
use Rattle.log_text.specs.Bodies.{BodyView}
use Rattle.log_text.specs.File.{IsFile}
use Rattle.program_recovery.specs.Flaws.{IsLogFileOf}

-- the first i disks hold their log files, and no disk has changed
pub record IsWalked {X : Type 0} (modelled : Type 0) (seen : X → List ℕ) (story : X → List Call) (version : ℕ)
    (s : Sizes) (seed : ℕ) (first : List X) (i : ℕ) (disks : List X) : Type 0 where
  pub count : length disks ≡ length first
  pub same : OnlyReads modelled (map seen) (map story) first disks
  pub whole : modelled → (l : ℕ) → l < i → IsLogFileOf version s seed l (length first) (get_or (map seen first) l [])

module _ {X : Type 0} {modelled : Type 0} {seen : X → List ℕ} {story : X → List Call} {version : ℕ} {s : Sizes} {seed : ℕ} {first : List X} where
  pub begins : {disks : List X} → length disks ≡ length first → OnlyReads modelled (map seen) (map story) first disks
      → IsWalked modelled seen story version s seed first 0 disks
  begins count same = record {
    count = count;
    same = same;
    whole = λ _ l less. absurd (omega (arith, less));
  }

  -- disk k, whatever stands for those past the end, becomes now
  module _ {i : ℕ} {disks : List X} (k : ℕ) (past now : X) (so_far : IsWalked modelled seen story version s seed first i disks) where
    pub only_reads : OnlyReads modelled seen story (get_or disks k past) now → OnlyReads modelled (map seen) (map story) first (set disks k now)
    only_reads same = record {
      seen = λ given. map-set_same seen disks k now past (same.seen given) ∙ so_far.same.seen given;
      story = λ given. map-set_same story disks k now past (same.story given) ∙ so_far.same.story given;
    }

    module _ (is : k ≡ i) (within : k < length disks) where
      -- what the disk had at first
      here : modelled → get_or (map seen first) i [] ≡ seen (get_or disks k past)
      here given = (λ j. get_or (sym (so_far.same.seen given) j) (sym is j) []) ∙ get_or-map seen disks k past [] within

      pub goes_on : OnlyReads modelled seen story (get_or disks k past) now
          → (modelled → IsLogFileOf version s seed i (length first) (seen (get_or disks k past)))
          → IsWalked modelled seen story version s seed first (i + 1) (set disks k now)
      goes_on same whole = record {
        count = length-set disks k now ∙ so_far.count;
        same = only_reads same;
        whole = λ given. below_more (λ l. IsLogFileOf version s seed l (length first) (get_or (map seen first) l [])) i (so_far.whole given)
            (subst (IsLogFileOf version s seed i (length first)) (sym (here given)) (whole given));
      }

-- a file that has the header that was asked for
pub whole_file : (version : ℕ) (s t : Sizes) (seed k logger loggers count : ℕ) (asked : HeaderView)
    → asked ≡ header_of_version version logger loggers t k → t ≡ s → k ≡ seed → loggers ≡ count
    → (file seen : List ℕ) → file ≡ seen → (bodies : List BodyView) × IsFile file asked bodies
    → IsLogFileOf version s seed logger count seen
whole_file version s t seed k logger loggers count asked is scale seeds counts file seen same whole = (
  whole.0,
  subst (λ (f : List ℕ). IsFile f (header_of_version version logger count s seed) whole.0) same
      (subst (λ (h : HeaderView). IsFile file h whole.0) (is ∙ (λ j. header_of_version version logger (counts j) (scale j) (seeds j))) whole.1),
)
