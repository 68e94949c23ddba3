-- From the rows of `script` with their defaults to what its words give.
use Rattle.std.proofs.Common.{◌≡◌, ◌∙◌, ◌&&◌, ◌||◌, List, [], ◌∷◌, ◌++◌, ℕ, ap, ap₂, sym, subst, refl, Bool, cond, false, true, Option, Some, None}
use Rattle.std.proofs.Common.{true≢false}
use Rattle.std.proofs.lemmas.Bool.{or_parts}
use Rattle.std.specs.List.{list_any}
use Rattle.std.specs.Prelude.{find, fold, is_some, option_and_then}
use Rattle.std.specs.Option.{option_or}
use Rattle.std.specs.Str.{bytes_eq}
use Rattle.std.proofs.lemmas.Slice.Eq.{bytes_eq-Decides}
use Rattle.std.proofs.lemmas.List.Folds.{find-append}
use Rattle.clap.specs.Words.{Row, Rule, Text, one_of, read_as}
use Rattle.clap.specs.Walk.{at_row, default_rows, has_row, more_values, row_text, reading_by, with_default}
use Rattle.clap.specs.declared.parser.matches.ValueSource.TheVariants.{DefaultValue}
use Rattle.program_options.specs.CommandLine.{WritesFlag, WritesNumber, WritesWithin}

-- the row of an id
abbrev at : Text → List Row → Option Row
at name rows = find (λ r. bytes_eq r.id name) rows

has_row-at : (id : Text) (rows : List Row) → has_row id rows ≡ is_some (at id rows)
has_row-at id [] = refl
has_row-at id (r ∷ rows) = go (bytes_eq r.id id) (has_row-at id rows)
  where
    go : (b : Bool) → has_row id rows ≡ is_some (at id rows) → (b || has_row id rows) ≡ is_some (cond b (Some r) (at id rows))
    go true e = refl
    go false e = e

-- what has no row yet goes to the end
at_end : (id : Text) (change : Row → List Row) (missing rows : List Row) → has_row id rows ≡ false → at_row id change missing rows ≡ rows ++ missing
at_end id change missing [] none = refl
at_end id change missing (r ∷ rows) none = go (bytes_eq r.id id) (at_end id change missing rows) none
  where
    go : (b : Bool) → (has_row id rows ≡ false → at_row id change missing rows ≡ rows ++ missing) → (b || has_row id rows) ≡ false
        → cond b (change r ++ rows) (r ∷ at_row id change missing rows) ≡ r ∷ (rows ++ missing)
    go true rest e = cc
    go false rest e = ap (λ xs. r ∷ xs) (rest e)

-- the row of an argument that has its default
abbrev default_row : Rule → List Text → Row
default_row a values = record { id = a.id; values = values; count = None; source = Some DefaultValue; reading = reading_by a }

-- the rows stay, or get the default's row at their end
by_default : (P : List Row → Type 0) (rows : List Row) (a : Rule) → P rows
    → ((v : Text) (vs : List Text) → P (rows ++ default_row a (v ∷ vs) ∷ [])) → P (with_default rows a)
by_default P rows a same more = go (has_row a.id rows) refl a.defaults
  where
    go : (b : Bool) → has_row a.id rows ≡ b → (ds : List Text) → P (cond b rows (default_rows a.id (reading_by a) ds rows))
    go true e ds = same
    go false e [] = same
    go false e (v ∷ vs) = subst P (sym (at_end a.id (more_values DefaultValue (v ∷ vs)) (default_row a (v ∷ vs) ∷ []) rows e)) (more v vs)

kept : (name : Text) (r : Row) (rows : List Row) (a : Rule) → at name rows ≡ Some r → at name (with_default rows a) ≡ Some r
kept name r rows a has = by_default (λ rs. at name rs ≡ Some r) rows a has
    (λ v vs. find-append (λ x. bytes_eq x.id name) rows (default_row a (v ∷ vs) ∷ []) ∙ ap (λ o. option_or o (at name (default_row a (v ∷ vs) ∷ []))) has)

passed : (name : Text) (rows : List Row) (a : Rule) → bytes_eq a.id name ≡ false → at name rows ≡ None → at name (with_default rows a) ≡ None
passed name rows a other none = by_default (λ rs. at name rs ≡ None) rows a none (λ v vs.
    let new : at name (default_row a (v ∷ vs) ∷ []) ≡ None = rw other refl in
    find-append (λ x. bytes_eq x.id name) rows (default_row a (v ∷ vs) ∷ []) ∙ ap₂ option_or none new)

placed : (name d : Text) (rows : List Row) (a : Rule) → bytes_eq a.id name ≡ true → a.defaults ≡ d ∷ [] → at name rows ≡ None
    → at name (with_default rows a) ≡ Some (default_row a (d ∷ []))
placed name d rows a same defaults none =
    let id : a.id ≡ name = (bytes_eq-Decides a.id name).0 same in
    let no_row : has_row a.id rows ≡ false = has_row-at a.id rows ∙ ap is_some (ap (λ (t : Text). at t rows) id ∙ none) in
    let new : at name (default_row a (d ∷ []) ∷ []) ≡ Some (default_row a (d ∷ [])) = rw same refl in
    let is : with_default rows a ≡ rows ++ default_row a (d ∷ []) ∷ [] =
    ap₂ (λ (b : Bool) (ds : List Text). cond b rows (default_rows a.id (reading_by a) ds rows)) no_row defaults
    ∙ at_end a.id (more_values DefaultValue (d ∷ [])) (default_row a (d ∷ []) ∷ []) rows no_row in
    ap (at name) is ∙ find-append (λ x. bytes_eq x.id name) rows (default_row a (d ∷ []) ∷ []) ∙ ap₂ option_or none new

all_kept : (name : Text) (r : Row) (rows : List Row) (rules : List Rule) → at name rows ≡ Some r → at name (fold with_default rows rules) ≡ Some r
all_kept name r rows [] has = has
all_kept name r rows (a ∷ rules) has = all_kept name r (with_default rows a) rules (kept name r rows a has)

-- an argument with no row ends with its default
default_found : (name d : Text) (rows : List Row) (rules : List Rule) (a : Rule) → find (λ x. bytes_eq x.id name) rules ≡ Some a → a.defaults ≡ d ∷ []
    → at name rows ≡ None → at name (fold with_default rows rules) ≡ Some (default_row a (d ∷ []))
default_found name d rows [] a found defaults none = cc
default_found name d rows (x ∷ rules) a found defaults none =
    go (bytes_eq x.id name) refl (λ e miss. default_found name d (with_default rows x) rules a e defaults miss) found
  where
    go : (b : Bool) → bytes_eq x.id name ≡ b
        → (find (λ y. bytes_eq y.id name) rules ≡ Some a → at name (with_default rows x) ≡ None → at name (fold with_default (with_default rows x) rules) ≡ Some
        (default_row a (d ∷ [])))
        → cond b (Some x) (find (λ y. bytes_eq y.id name) rules) ≡ Some a
        → at name (fold with_default (with_default rows x) rules) ≡ Some (default_row a (d ∷ []))
    go true same rest e =
        let is : x ≡ a = cc in
        let first : at name (with_default rows x) ≡ Some (default_row a (d ∷ [])) = placed name d rows x same (ap (λ (r : Rule). r.defaults) is ∙ defaults) none
        ∙ ap (λ (r : Rule). Some (default_row r (d ∷ []))) is in
        all_kept name _ (with_default rows x) rules first
    go false other rest e = rest e (passed name rows x other none)

-- what is so of what the rows with defaults have is so of what the given rows or the default have
pub so_given : (P : Option Text → Type 0) → (P None → ⊥) → (name d : Text) (rows : List Row) (rules : List Rule) (a : Rule)
    → find (λ x. bytes_eq x.id name) rules ≡ Some a → a.defaults ≡ d ∷ [] → read_as (reading_by a) d ≡ d
    → P (one_of name (fold with_default rows rules)) → P (option_or (one_of name rows) (Some d))
so_given P some name d rows rules a found defaults plain writes = go (at name rows) refl
  where
    with_row : (o : Option Text) → P o → P (option_or o (Some d))
    with_row None h = absurd (some h)
    with_row (Some t) h = h

    go : (o : Option Row) → at name rows ≡ o → P (option_or (option_and_then row_text (at name rows)) (Some d))
    go None none =
        let read : one_of name (fold with_default rows rules) ≡ Some d =
        ap (option_and_then row_text) (default_found name d rows rules a found defaults none) ∙ ap Some plain in
        let is : option_or (option_and_then row_text (at name rows)) (Some d) ≡ Some d = ap (λ o. option_or (option_and_then row_text o) (Some d)) none in
        subst P (read ∙ sym is) writes
    go (Some r) has =
        let same : one_of name (fold with_default rows rules) ≡ one_of name rows =
        ap (option_and_then row_text) (all_kept name r rows rules has) ∙ sym (ap (option_and_then row_text) has) in
        with_row (one_of name rows) (subst P same writes)

-- the first rule of this name has this one default, which is read as it stands
abbrev pub HasDefault : List Rule → Text → Text → Type 0
HasDefault rules name d = (a : Rule) × (find (λ x. bytes_eq x.id name) rules ≡ Some a) × (a.defaults ≡ d ∷ []) × (read_as (reading_by a) d ≡ d)

pub default_given : (name d : Text) (rows : List Row) (rules : List Rule) → HasDefault rules name d → (bits n : ℕ)
    → WritesNumber bits (one_of name (fold with_default rows rules)) n → WritesNumber bits (option_or (one_of name rows) (Some d)) n
default_given name d rows rules has bits n = so_given (λ o. WritesNumber bits o n) (λ never. never) name d rows rules has.0 has.1 has.2 has.3

-- so it is of a flag
pub flag_given : (name d : Text) (rows : List Row) (rules : List Rule) → HasDefault rules name d → (flag : Bool)
    → WritesFlag (one_of name (fold with_default rows rules)) flag → WritesFlag (option_or (one_of name rows) (Some d)) flag
flag_given name d rows rules has flag = so_given (λ o. WritesFlag o flag) (λ never. never) name d rows rules has.0 has.1 has.2 has.3

-- so it is of a number within limits
pub within_given : (name d : Text) (rows : List Row) (rules : List Rule) → HasDefault rules name d → (low high n : ℕ)
    → WritesWithin low high (one_of name (fold with_default rows rules)) n → WritesWithin low high (option_or (one_of name rows) (Some d)) n
within_given name d rows rules has low high n writes =
    (default_given name d rows rules has 32 n writes.0, writes.1, writes.2)

abbrev pub has_any : List Text → Bool
has_any [] = false
has_any (d ∷ ds) = true

-- a rule of this name has a default
abbrev pub has_default : Text → List Rule → Bool
has_default name rules = list_any (λ a. bytes_eq a.id name && has_any a.defaults) rules

-- where none has, the rows with defaults are the given ones, at this name
pub no_default : (name : Text) (rows : List Row) (rules : List Rule) → has_default name rules ≡ false
    → find (λ r. bytes_eq r.id name) (fold with_default rows rules) ≡ find (λ r. bytes_eq r.id name) rows
no_default name rows rules none = go (at name rows) refl
  where
    unset : (a : Rule) (rs : List Row) → (bytes_eq a.id name && has_any a.defaults) ≡ false → at name rs ≡ None → at name (with_default rs a) ≡ None
    unset a rs unset_here miss = by_name (bytes_eq a.id name) refl a.defaults refl unset_here
      where
        kept_whole : (b : Bool) → at name (cond b rs rs) ≡ None
        kept_whole true = miss
        kept_whole false = miss

        by_name : (b : Bool) → bytes_eq a.id name ≡ b → (ds : List Text) → a.defaults ≡ ds → (b && has_any ds) ≡ false
            → at name (with_default rs a) ≡ None
        by_name false other ds is e = passed name rs a other miss
        by_name true same [] is e =
            ap (λ (ds : List Text). at name (cond (has_row a.id rs) rs (default_rows a.id (reading_by a) ds rs))) is ∙ kept_whole (has_row a.id rs)
        by_name true same (d ∷ ds) is e = absurd (true≢false e)

    all_unset : (rules : List Rule) (rs : List Row) → has_default name rules ≡ false → at name rs ≡ None → at name (fold with_default rs rules) ≡ None
    all_unset [] rs unset_here miss = miss
    all_unset (a ∷ rules) rs unset_here miss =
        let parts = or_parts _ _ unset_here in
        all_unset rules (with_default rs a) parts.1 (unset a rs parts.0 miss)

    go : (o : Option Row) → at name rows ≡ o → at name (fold with_default rows rules) ≡ at name rows
    go None miss = all_unset rules rows none miss ∙ sym miss
    go (Some r) has = all_kept name r rows rules has ∙ sym has
