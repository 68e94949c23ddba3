-- How the lines of a text come one after another.
use Rattle.std.proofs.Common.{◌≡◌, ◌≢◌, ℕ, ◌<◌, ◌≤◌, Bool, true, false, cond, eqb, leb, Some, None, List, [], ◌∷◌, ◌++◌, length, length-append, get_or}
use Rattle.std.proofs.Common.{append_assoc, append-nil, sym, ap, ◌∙◌, refl, arith}
use Rattle.std.specs.List.{All, AllByRecursion, slice_split, flat_map}
use Rattle.std.proofs.lemmas.Bool.{false_from_ne_true}
use Rattle.std.proofs.lemmas.Bool.Decides.{Decides-eqb, nat_tests}
use Rattle.std.proofs.lemmas.List.Elements.{All-nil, All-append}
use Rattle.std.proofs.lemmas.List.Splits.{slice_split_at, slice_split_none, length-slice_split}
use Rattle.program_script_text.specs.declared.line_buffer.TheConstants.{MAX_LINE}
use Rattle.program_script_text.specs.Lines.{HasNoLineFeed, IsCut, buffered, held_after, last_line, text_lines, without_empty_last}

no_feed_test : (bytes : List ℕ) → HasNoLineFeed bytes → All (λ b. eqb b 10 ≡ false) bytes
no_feed_test bytes h k d below = false_from_ne_true _ (λ e. h k d below ((Decides-eqb (get_or bytes k d) 10).0 e))

more_parts : (part : List ℕ) (parts : List (List ℕ)) → 0 < length parts → without_empty_last (part ∷ parts) ≡ part ∷ without_empty_last parts
more_parts part [] some = absurd (omega arith)
more_parts part (next ∷ parts) some = refl

-- a line and its line feed come first
pub lines_first : (line rest : List ℕ) → HasNoLineFeed line → text_lines (line ++ (10 ∷ rest)) ≡ line ∷ text_lines rest
lines_first line rest h =
    ap without_empty_last (slice_split_at (λ b. eqb b 10) line 10 rest (no_feed_test line h) refl)
    ∙ more_parts line (slice_split (λ b. eqb b 10) rest) (omega (arith, length-slice_split (λ b. eqb b 10) rest))

-- bytes without a line feed are the last line
pub lines_last : (rest : List ℕ) → HasNoLineFeed rest → text_lines rest ≡ last_line rest
lines_last rest h = ap without_empty_last (slice_split_none (λ b. eqb b 10) rest (no_feed_test rest h))

lines_joined : (lines : List (List ℕ)) (rest : List ℕ) → AllByRecursion HasNoLineFeed lines → HasNoLineFeed rest
    → text_lines (flat_map (λ line. line ++ (10 ∷ [])) lines ++ rest) ≡ lines ++ last_line rest
lines_joined [] rest each last = lines_last rest last
lines_joined (line ∷ lines) rest each last =
    let later = flat_map (λ l. l ++ (10 ∷ [])) lines in
    let together : ((line ++ (10 ∷ [])) ++ later) ++ rest ≡ line ++ (10 ∷ (later ++ rest)) = simp append_assoc in
    ap text_lines together ∙ lines_first line (later ++ rest) each.0 ∙ ap (λ l. line ∷ l) (lines_joined lines rest each.1 last)

-- the lines of a text that is cut
pub lines_of_cut : (text : List ℕ) (lines : List (List ℕ)) (rest : List ℕ) → IsCut text lines rest → text_lines text ≡ lines ++ last_line rest
lines_of_cut text lines rest cut = ap text_lines cut.whole ∙ lines_joined lines rest cut.each cut.last

flat_push : (lines : List (List ℕ)) (line : List ℕ) → flat_map (λ l. l ++ (10 ∷ [])) (lines ++ (line ∷ [])) ≡ flat_map (λ l. l ++ (10 ∷ [])) lines
    ++ (line ++ (10 ∷ []))
flat_push [] line = append-nil (line ++ (10 ∷ []))
flat_push (first ∷ lines) line = ap (λ t. (first ++ (10 ∷ [])) ++ t) (flat_push lines line) ∙ sym (append_assoc (first ++ (10 ∷ [])) _ _)

each_push : (lines : List (List ℕ)) (line : List ℕ) → AllByRecursion HasNoLineFeed lines → HasNoLineFeed line
    → AllByRecursion HasNoLineFeed (lines ++ (line ∷ []))
each_push [] line each h = (h, tt)
each_push (first ∷ lines) line each h = (each.0, each_push lines line each.1 h)

-- nothing yet
pub cut_start : IsCut [] [] []
cut_start = record { whole = refl; each = tt; last = All-nil (λ b. b ≢ 10) }

-- a line feed ends the line
pub cut_line : (text : List ℕ) (lines : List (List ℕ)) (rest end : List ℕ) → IsCut text lines rest → HasNoLineFeed end
    → IsCut (text ++ (end ++ (10 ∷ []))) (lines ++ ((rest ++ end) ∷ [])) []
cut_line text lines rest end cut h =
    let flat = flat_map (λ l. l ++ (10 ∷ [])) lines in
    let regroup : (flat ++ rest) ++ (end ++ (10 ∷ [])) ≡ flat ++ ((rest ++ end) ++ (10 ∷ [])) = simp append_assoc in
    let whole : text ++ (end ++ (10 ∷ [])) ≡ flat_map (λ l. l ++ (10 ∷ [])) (lines ++ ((rest ++ end) ∷ [])) ++ [] =
    ap (λ t. t ++ (end ++ (10 ∷ []))) cut.whole
    ∙ regroup
    ∙ sym (append-nil _ ∙ flat_push lines (rest ++ end)) in
    record { whole = whole; each = each_push lines (rest ++ end) cut.each (All-append (λ b. b ≢ 10) rest end cut.last h); last = All-nil (λ b. b ≢ 10) }

-- the line goes on
pub cut_more : (text : List ℕ) (lines : List (List ℕ)) (rest more : List ℕ) → IsCut text lines rest → HasNoLineFeed more
    → IsCut (text ++ more) lines (rest ++ more)
cut_more text lines rest more cut h = record {
  whole = ap (λ t. t ++ more) cut.whole ∙ append_assoc _ rest more;
  each = cut.each;
  last = All-append (λ b. b ≢ 10) rest more cut.last h;
}

longer : (m n : ℕ) → m ≤ n → leb m MAX_LINE ≡ false → leb n MAX_LINE ≡ false
longer m n le e = grind (arith, nat_tests)

-- what is buffered of a line, and of more of it
pub held_more : (rest more : List ℕ) → held_after (buffered rest) more ≡ buffered (rest ++ more)
held_more rest more = go (leb (length rest) MAX_LINE) refl
  where
    go : (b : Bool) → leb (length rest) MAX_LINE ≡ b → held_after (cond b (Some rest) None) more ≡ buffered (rest ++ more)
    go true e = refl
    go false e = sym (ap (λ b. cond b (Some (rest ++ more)) None) (longer (length rest) (length (rest ++ more)) (omega (arith, length-append rest more)) e))
