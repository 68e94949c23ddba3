-- One body more in a log file: what stands there, what a crash may leave at each moment, and what is kept.
use Rattle.std.proofs.Common.{◌≡◌, ◌≢◌, ℕ, ◌+◌, ◌<◌, ◌≤◌, ◌==◌, true, false, Some, IsSome, List, [], ◌∷◌, ◌++◌, length, drop}
use Rattle.std.proofs.Common.{refl, sym, ap, ◌∙◌, subst, inl, inr, ⊎_elim, append_assoc, append-nil, length-append, arith}
use Rattle.std.proofs.Math.Logic.{∥∥₁_elim}
use Rattle.std.specs.Coded.{le_prop}
use Rattle.std.proofs.lemmas.Bool.{eqb-true, eqb-false}
use Rattle.std.proofs.lemmas.List.{drop_all}
use Rattle.log_disk.specs.Calls.{Call, Synced, written}
use Rattle.log_disk.specs.Crashes.{MayLeave, LeavesOnly}
use Rattle.log_header.specs.Header.{HeaderView, IsHeader, header_text}
use Rattle.log_header.specs.declared.header.TheConstants.{VERSION}
use Rattle.log_text.specs.Bodies.{BodyView, body_text, body_after, bodies_after, start}
use Rattle.log_text.specs.File.{IsFile, opened}
use Rattle.log_text.specs.declared.last.Last.{Last}
use Rattle.log_text.proofs.OneFile.{opened_push, after_push}
use Rattle.tables.specs.Sizes.{IsScale}
use Rattle.book.specs.Batches.{BatchView, IsBatch}
use Rattle.book.specs.Loggable.{NumbersRise}
use Rattle.book.specs.Streams.{last_number}
use Rattle.log_entries.specs.Following.{Continues, behind_batch, body_of_batch}
use Rattle.log_entries.proofs.Following.{all_of_today, batch_follows, batch_near, number_rises}
use Rattle.logfile.specs.Staged.{IsSettled, HasGate, IsStaged}
use Rattle.logfile.specs.Standing.{Stands, IsOpen, IsWithOrWithout, IsKept}
use Rattle.logfile.proofs.Moments.{only_wider, only_last}

-- where a file stands is where its bodies lead
lawful_at : (h : HeaderView) (bodies : List BodyView) (last : Last) → bodies_after h start bodies ≡ Some last → IsSome (bodies_after h start bodies)
lawful_at h bodies last e = subst IsSome (sym e) refl

-- the gate that ends the text, as a place in the bytes
pub at_gate : (h : HeaderView) (bodies : List BodyView) (end : ℕ) (last : Last) (seen : List ℕ) (story : List Call)
    → (s : Stands h bodies end last seen story) → HasGate end (header_text h ++ opened bodies) s.file.gate s.file.rest seen
at_gate h bodies end last seen story s = record {
  place = s.place;
  text = s.file.text ∙ sym (append_assoc (header_text h) (opened bodies) (s.file.gate ∷ s.file.rest));
}

module _ (h : HeaderView) (is : IsHeader h) (bodies : List BodyView) (body : BodyView) (last now : Last)
    (before : bodies_after h start bodies ≡ Some last) (after : body_after h last body ≡ Some now)
  where
    abbrev front : List ℕ
    front = header_text h ++ opened bodies

    -- a body's text, and a closed gate behind it
    abbrev text : List ℕ
    text = body_text body ++ 0 ∷ []

    lawful : bodies_after h start (bodies ++ body ∷ []) ≡ Some now
    lawful = after_push h start bodies body last now before after

    without : (gate : ℕ) (rest bytes : List ℕ) → gate ≢ 1 → bytes ≡ front ++ gate ∷ rest → IsFile bytes h bodies
    without gate rest bytes closed e = record {
      gate = gate;
      rest = rest;
      text = e ∙ append_assoc (header_text h) (opened bodies) (gate ∷ rest);
      is_closed = closed;
      header = is;
      lawful = lawful_at h bodies last before;
    }

    with_text : (rest : List ℕ) → front ++ 1 ∷ (text ++ rest) ≡ header_text h ++ (opened (bodies ++ body ∷ []) ++ 0 ∷ rest)
    with_text rest =
        append_assoc (header_text h) (opened bodies) (1 ∷ (text ++ rest))
        ∙ ap (λ (l : List ℕ). header_text h ++ (opened bodies ++ 1 ∷ l)) (append_assoc (body_text body) (0 ∷ []) rest)
        ∙ ap (λ (l : List ℕ). header_text h ++ l) (sym (opened_push bodies body (0 ∷ rest)))

    with_body : (rest bytes : List ℕ) → bytes ≡ front ++ 1 ∷ (text ++ rest) → IsFile bytes h (bodies ++ body ∷ [])
    with_body rest bytes e = record {
      gate = 0;
      rest = rest;
      text = e ∙ with_text rest;
      is_closed = λ q. cc;
      header = is;
      lawful = lawful_at h (bodies ++ body ∷ []) now lawful;
    }

    -- at each moment, bytes that are staged are the file with the body or without it
    pub staged_is : (gate : ℕ) (bytes : List ℕ) → gate ≢ 1 → IsStaged front gate text bytes → IsWithOrWithout h bodies body bytes
    staged_is gate bytes closed staged =
        ⊎_elim (λ old. inl (without gate old.0 bytes closed old.1)) (λ new. by_gate new.0 new.1 new.2) staged
      where
        by_gate : (byte : ℕ) (rest : List ℕ) → bytes ≡ front ++ byte ∷ (text ++ rest) → IsWithOrWithout h bodies body bytes
        by_gate byte rest e =
            let is_one = byte == 1 in
            elim is_one as (λ b. is_one ≡ b → IsWithOrWithout h bodies body bytes) [
              | true ↦ λ q. inr (with_body rest bytes (e ∙ ap (λ (g : ℕ). front ++ g ∷ (text ++ rest)) (eqb-true byte 1 q)))
              | false ↦ λ q. inl (without byte (text ++ rest) bytes (eqb-false byte 1 q) e)
            ] refl

    pub moments : (gate : ℕ) (old new : List Call) → gate ≢ 1 → LeavesOnly (IsStaged front gate text) old new
        → LeavesOnly (IsWithOrWithout h bodies body) old new
    moments gate old new closed only =
        only_wider (IsStaged front gate text) (IsWithOrWithout h bodies body) old new (λ bytes staged. staged_is gate bytes closed staged) only

    -- the length of what stands in front of the next gate
    longer : length (header_text h ++ opened (bodies ++ body ∷ [])) ≡ length front + length text
    longer =
        let e : front ++ 1 ∷ (text ++ []) ≡ header_text h ++ (opened (bodies ++ body ∷ []) ++ 0 ∷ []) = with_text [] in
        omega (
          arith,
          ap length e,
          length-append front (1 ∷ (text ++ [])),
          ap length (append-nil text),
          ap length (sym (append_assoc (header_text h) (opened (bodies ++ body ∷ [])) (0 ∷ []))),
          length-append (header_text h ++ opened (bodies ++ body ∷ [])) (0 ∷ []),
        )

    -- the body is in the file, for good
    pub stands : (end : ℕ) (rest seen : List ℕ) (story : List Call) → length front ≡ end → seen ≡ front ++ 1 ∷ (text ++ rest)
        → IsSettled seen story → Stands h (bodies ++ body ∷ []) (end + length text) now seen story
    stands end rest seen story place e settled = record {
      file = with_body rest seen e;
      lawful = lawful;
      settled = settled;
      place = longer ∙ ap (λ (n : ℕ). n + length text) place;
    }

    -- what a crash can't take while the body is on its way: the bodies before
    pub still_kept : (gate : ℕ) (old new : List Call) → gate ≢ 1 → LeavesOnly (IsStaged front gate text) old new
        → (behind : List ℕ) × MayLeave new (front ++ gate ∷ behind) → IsKept h new last.mark
    still_kept gate old new closed only stay = record {
      bodies = bodies;
      last = last;
      lawful = before;
      marked = refl;
      each = λ bytes may. more_of bytes (only_last (IsWithOrWithout h bodies body) old new (moments gate old new closed only) bytes may);
      least = front ++ gate ∷ stay.0;
      may = stay.1;
      just = without gate stay.0 (front ++ gate ∷ stay.0) closed refl;
    }
      where
        more_of : (bytes : List ℕ) → IsWithOrWithout h bodies body bytes → (more : List BodyView) × IsFile bytes h (bodies ++ more)
        more_of bytes either =
            ⊎_elim (λ old. ([], subst (λ (l : List BodyView). IsFile bytes h l) (sym (append-nil bodies)) old)) (λ new. (body ∷ [], new)) either

-- where nothing is on its way, a crash can't take anything
pub all_kept : (h : HeaderView) (bodies : List BodyView) (end : ℕ) (last : Last) (seen : List ℕ) (story : List Call)
    → Stands h bodies end last seen story → MayLeave story seen → IsKept h story last.mark
all_kept h bodies end last seen story s may = record {
  bodies = bodies;
  last = last;
  lawful = s.lawful;
  marked = refl;
  each = λ bytes left. (
    [],
    subst (λ (l : List BodyView). IsFile bytes h l) (sym (append-nil bodies))
        (subst (λ (b : List ℕ). IsFile b h bodies) (sym (s.settled bytes left)) s.file),
  );
  least = seen;
  may = may;
  just = s.file;
}

-- a text put behind the gate that ends a file's
module _ (h : HeaderView) (bodies : List BodyView) (body : BodyView) (end : ℕ) (last now : Last) (seen : List ℕ) (old : List Call)
    (s : Stands h bodies end last seen old) (text : List ℕ) (is : text ≡ body_text body ++ 0 ∷ []) (after : body_after h last body ≡ Some now)
  where
    abbrev head : List ℕ
    head = header_text h ++ opened bodies

    staged_as : (new : List Call) → LeavesOnly (IsStaged head s.file.gate text) old new
        → LeavesOnly (IsStaged head s.file.gate (body_text body ++ 0 ∷ [])) old new
    staged_as new only = subst (λ (t : List ℕ). LeavesOnly (IsStaged head s.file.gate t) old new) is only

    pub add_moments : (new : List Call)
        → ((front : List ℕ) (gate : ℕ) (rest : List ℕ) → HasGate end front gate rest seen → LeavesOnly (IsStaged front gate text) old new)
        → LeavesOnly (IsWithOrWithout h bodies body) old new
    add_moments new only =
        let has = at_gate h bodies end last seen old s in
        moments h s.file.header bodies body last now s.lawful after s.file.gate old new s.file.is_closed
        (staged_as new (only head s.file.gate s.file.rest has))

    pub add_stands : (bytes : List ℕ) (new : List Call)
        → ((front : List ℕ) (gate : ℕ) (rest : List ℕ) → HasGate end front gate rest seen → bytes ≡ front ++ 1 ∷ (text ++ drop (length text) rest))
        → IsSettled bytes new → Stands h (bodies ++ body ∷ []) (end + length text) now bytes new
    add_stands bytes new put settled =
        let has = at_gate h bodies end last seen old s in
        let behind : List ℕ = drop (length text) s.file.rest in
        subst (λ (t : List ℕ). Stands h (bodies ++ body ∷ []) (end + length t) now bytes new) (sym is)
        (stands h s.file.header bodies body last now s.lawful after end behind bytes new s.place
        (put head s.file.gate s.file.rest has ∙ ap (λ (t : List ℕ). head ++ 1 ∷ (t ++ behind)) is) settled)

    pub add_keeps : (new : List Call)
        → ((front : List ℕ) (gate : ℕ) (rest : List ℕ) → HasGate end front gate rest seen → LeavesOnly (IsStaged front gate text) old new)
        → ((front : List ℕ) (gate : ℕ) (rest : List ℕ) → HasGate end front gate rest seen → (behind : List ℕ) × MayLeave new (front ++ gate ∷ behind))
        → IsKept h new last.mark
    add_keeps new only stay =
        let has = at_gate h bodies end last seen old s in
        still_kept h s.file.header bodies body last now s.lawful after s.file.gate old new s.file.is_closed
        (staged_as new (only head s.file.gate s.file.rest has)) (stay head s.file.gate s.file.rest has)

-- the gate that ends the text is within the bytes
gate_within : (h : HeaderView) (bodies : List BodyView) (end : ℕ) (last : Last) (seen : List ℕ) (story : List Call)
    → Stands h bodies end last seen story → end < length seen
gate_within h bodies end last seen story s =
    omega (
      arith,
      s.place,
      ap length (s.file.text ∙ sym (append_assoc (header_text h) (opened bodies) (s.file.gate ∷ s.file.rest))),
      length-append (header_text h ++ opened bodies) (s.file.gate ∷ s.file.rest),
    )

-- what stands is open
pub is_open : (h : HeaderView) (end : ℕ) (last : Last) (seen : List ℕ) (story : List Call) → IsSettled seen story
    → ∥ ((bodies : List BodyView) × Stands h bodies end last seen story) ∥₁ → IsOpen h end last seen story
is_open h end last seen story settled stands = record {
  settled = settled;
  within = ∥∥₁_elim stands le_prop (λ s. gate_within h s.0 end last seen story s.1);
  stands = stands;
}

-- what the first write leaves on an empty disk
pub first_bytes : (h : HeaderView) (text before seen now : List ℕ) → text ≡ header_text h ++ 0 ∷ [] → before ≡ []
    → seen ≡ written before 0 text → now ≡ seen → now ≡ header_text h ++ 0 ∷ []
first_bytes h text before seen now text_is none wrote same =
    same ∙ wrote ∙ ap (λ (d : List ℕ). written d 0 text) none ∙ ap (λ (d : List ℕ). text ++ d) (drop_all (0 + length text) [] (omega arith))
    ∙ append-nil text ∙ text_is

-- a file that was just made
pub created : (h : HeaderView) → IsHeader h → (end : ℕ) (last : Last) (text before seen now : List ℕ) (old new : List Call)
    → text ≡ header_text h ++ 0 ∷ [] → end + 1 ≡ length text → last ≡ start → before ≡ [] → seen ≡ written before 0 text
    → now ≡ seen → new ≡ Synced seen ∷ old → Stands h [] end last now new
created h is end last text before seen now old new text_is end_is last_is none wrote same story = record {
  file = record {
    gate = 0;
    rest = [];
    text = first_bytes h text before seen now text_is none wrote same;
    is_closed = λ q. cc;
    header = is;
    lawful = refl;
  };
  lawful = ap Some (sym last_is);
  settled = λ bytes may. subst (λ (s : List Call). MayLeave s bytes) story may ∙ sym same;
  place = omega (arith, ap length (append-nil (header_text h)), end_is, ap length text_is, length-append (header_text h) (0 ∷ []));
}

-- no call
pub no_call : (h : HeaderView) (bodies : List BodyView) (body : BodyView) (end : ℕ) (last : Last) (seen : List ℕ) (story : List Call)
    → Stands h bodies end last seen story → LeavesOnly (IsWithOrWithout h bodies body) story story
no_call h bodies body end last seen story s = record {
  later = [];
  goes_on = refl;
  each = λ bytes may. inl (subst (λ (b : List ℕ). IsFile b h bodies) (sym (s.settled bytes may)) s.file);
}

-- a batch that continues a file, as the body that follows there
pub batch_body : (h : HeaderView) (count number : ℕ) (last now : Last) (b : BatchView) → IsHeader h → h.version ≡ VERSION → IsBatch b → Continues h count number last b
    → last.epoch ≤ last.mark + 1 → now ≡ behind_batch last b → body_after h last (body_of_batch b) ≡ Some now
batch_body h count number last now b is version batch at epoch now_is =
    batch_follows h count number last b (all_of_today h b version) batch at epoch (subst IsScale (sym at.scale) is.scale) ∙ ap Some (sym now_is)

-- its entries are counted, and their numbers rise
pub batch_counts : (h : HeaderView) (count number entries upto : ℕ) (last : Last) (b : BatchView) → IsBatch b → Continues h count number last b
    → count ≤ number → entries ≡ length b.entries → upto ≡ last_number number b.entries → count + entries ≤ upto
batch_counts h count number entries upto last b batch at low entries_is upto_is =
    omega (
      arith,
      low,
      entries_is,
      number_rises number b.entries (subst (λ (n : ℕ). NumbersRise n b.entries) at.number_before batch.rise),
      upto_is,
    )

-- and their epochs are near the mark
pub batch_epoch : (h : HeaderView) (count number : ℕ) (last now : Last) (b : BatchView) → IsBatch b → Continues h count number last b
    → last.epoch ≤ last.mark + 1 → now ≡ behind_batch last b → now.epoch ≤ now.mark + 1
batch_epoch h count number last now b batch at epoch now_is =
    subst (λ (l : Last). l.epoch ≤ l.mark + 1) (sym now_is) (batch_near last b batch at.mark_before epoch)
