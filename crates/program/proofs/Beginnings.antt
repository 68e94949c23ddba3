-- What is written when a write of several parts fails.
use Rattle.std.proofs.Common.{◌≡◌, ℕ, List, [], ◌∷◌, ◌++◌, Option, ap, sym, subst, ◌∙◌, append_assoc, append-nil}
use Rattle.std.specs.Io.KnownBytes.{Appends}
use Rattle.std.proofs.KnownBytes.{Appends-trans}
use Rattle.program.specs.Status.{WritesBeginning}

-- the parts before were written, and of this part a front
pub broken_off : (old mid new : Option (List ℕ)) (text before part later : List ℕ) → text ≡ (before ++ part) ++ later → Appends old mid before
    → (front : List ℕ) × (rest : List ℕ) × (part ≡ front ++ rest) × Appends mid new front → WritesBeginning text old new
broken_off old mid new text before part later whole written failed = (
  before ++ failed.0,
  failed.1 ++ later,
  whole ∙ ap (λ p. (before ++ p) ++ later) failed.2 ∙ regrouped before failed.0 failed.1 later,
  Appends-trans old mid new before failed.0 written failed.3,
)
  where
    regrouped : (a b c d : List ℕ) → (a ++ (b ++ c)) ++ d ≡ (a ++ b) ++ (c ++ d)
    regrouped a b c d = simp append_assoc

-- a beginning of nothing is nothing
pub nothing_begun : (old new : Option (List ℕ)) → WritesBeginning [] old new → Appends old new []
nothing_begun old new begun = go begun.0 begun.1 begun.2 begun.3
  where
    go : (front rest : List ℕ) → [] ≡ front ++ rest → Appends old new front → Appends old new []
    go [] rest is wrote = wrote
    go (b ∷ front) rest is wrote = absurd cc

-- a beginning of a text is one of any text that goes on from it
pub begins_longer : (text more : List ℕ) (old new : Option (List ℕ)) → WritesBeginning text old new
    → WritesBeginning (text ++ more) old new
begins_longer text more old new begun = (
  begun.0,
  begun.1 ++ more,
  ap (λ t. t ++ more) begun.2 ∙ append_assoc begun.0 begun.1 more,
  begun.3,
)

-- two parts were written
pub both_written : (old mid new : Option (List ℕ)) (first second : List ℕ) → Appends old mid first
    → Appends mid new second → WritesBeginning (first ++ second) old new
both_written old mid new first second one two = (
  first ++ second,
  [],
  sym (append-nil (first ++ second)),
  Appends-trans old mid new first second one two,
)

-- what goes on from a text may be anything, where nothing was to go on from it
pub begins_any : (text more : List ℕ) (old new : Option (List ℕ)) → WritesBeginning (text ++ []) old new
    → WritesBeginning (text ++ more) old new
begins_any text more old new begun =
    let begins : List ℕ → Type 0 = λ t. WritesBeginning t old new in
    begins_longer text more old new (subst begins (append-nil text) begun)
