-- Files in two halves.
use Rattle.std.proofs.Common.{◌≡◌, ℕ, List, ◌++◌, map, take, drop, Vec, Global, sym, ap, ◌∙◌, subst}
use Rattle.std.specs.List.{All, flat_map}
use Rattle.std.proofs.lemmas.Grind.{flat_map-append}
use Rattle.std.proofs.lemmas.List.{map-append, take-append-drop}
use Rattle.tables.specs.Sizes.{Sizes}
use Rattle.log_text.specs.Bodies.{BodyView}
use Rattle.log_text.specs.Entries.{EntryView}
use Rattle.log_text.specs.declared.body.Body.{Body}
use Rattle.recover_found.specs.Found.{bodies_in, entries_of}
use Rattle.recover_files.specs.Parts.{HaveLawfulWrites}
use Rattle.recover_files.proofs.Looking.{all_left, all_right}

abbrev pub bodies_of : List (Vec Body Global) → List (List BodyView)
bodies_of files = map (λ bodies. bodies_in bodies.items) files

abbrev pub AreLawful : Sizes → List (Vec Body Global) → Type 0
AreLawful s files = All (λ bodies. HaveLawfulWrites s (entries_of bodies)) (bodies_of files)

pub whole : (n : ℕ) (files low high : List (Vec Body Global)) → low ≡ take n files → high ≡ drop n files
    → files ≡ low ++ high
whole n files low high front back = sym ((λ j. front j ++ back j) ∙ take-append-drop n files)

-- what is lawful in all is so in both
pub both_lawful : (s : Sizes) (files low high : List (Vec Body Global)) → files ≡ low ++ high → AreLawful s files
    → AreLawful s low × AreLawful s high
both_lawful s files low high all lawful =
    let P = λ (bodies : List BodyView). HaveLawfulWrites s (entries_of bodies) in
    let parted = subst (All P) (ap bodies_of all ∙ map-append (λ (v : Vec Body Global). bodies_in v.items) low high) lawful in
    (all_left P (bodies_of low) (bodies_of high) parted, all_right P (bodies_of low) (bodies_of high) parted)

-- the entries of both are those of all
pub both_entries : (f : List BodyView → List EntryView) (files low high : List (Vec Body Global)) → files ≡ low ++ high
    → flat_map f (bodies_of low) ++ flat_map f (bodies_of high) ≡ flat_map f (bodies_of files)
both_entries f files low high all =
    sym (ap (λ (v : List (Vec Body Global)). flat_map f (bodies_of v)) all
    ∙ ap (flat_map f) (map-append (λ (v : Vec Body Global). bodies_in v.items) low high)
    ∙ flat_map-append f (bodies_of low) (bodies_of high))
