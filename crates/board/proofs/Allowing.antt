-- Each kind of step is allowed.
use Rattle.std.proofs.Common.{◌≡◌, ◌≢◌, false, ℕ, ◌+◌, ◌^◌, ◌%◌, ◌<◌, ◌≤◌, max, List, ◌∷◌, set, length, refl, sym, ap, ◌∙◌, subst, arith, add-one, ◌-◌}
use Rattle.std.specs.Prelude.{slice_index}
use Rattle.std.proofs.lemmas.List.{get_or-set_other, get_or-set_same}
use Rattle.std.proofs.Math.ListN.{length-set}
use Rattle.std.proofs.Math.Nat.{mod-eq_of_lt}
use mathlib.Core.Logic.{dite}
use native.Mathlib.Decide.{ℕ_discrete}
use Rattle.atomic_table.specs.Table.{Allows, Me}
use Rattle.board.specs.declared.rule.Plan.{Plan}
use Rattle.board.specs.declared.rule.View.{View}
use Rattle.board.specs.declared.rule.Role.{Role}
use Rattle.board.specs.declared.rule.Role.TheVariants.{Terminal, Book, Clock, Logger, Gone}
use Rattle.board.specs.declared.rule.WordStep.{WordStep}
use Rattle.board.specs.declared.rule.WordStep.TheVariants.{LoadEpoch, AddEpoch, CountCommit, StoreFloor, StoreMark, LoadMark, RaiseDurable, LoadDurable}
use Rattle.board.specs.Words.{mark_in, floor_in, epoch_in, count_in, durable_in}
use Rattle.board.specs.Steps.{known_epoch, counted_epochs, stored_mark, seen_durable, RespectsFloors, AllStand}
use Rattle.board.specs.Rule.{role_number, is_gone, KnowsOwn, IsLawfulBoard}
use Rattle.board.specs.Plays.{with_step, IsUpToMarks}
use Rattle.board.specs.Plays.{LoadsEpochOf, AddsEpochOf, CountsCommitOf, StoresFloorOf, StoresMarkOf, LoadsMarkOf, RaisesDurableOf, LoadsDurableOf}
use Rattle.board.proofs.Standing.{Rise, known_stands, durable_stands, floors_up_to}
use Rattle.board.proofs.Owned.{IsElsewhere, owns_still, owns_epoch, owns_mark, owns_durable, owns_raise}
use Rattle.board.proofs.Moves.{IsMove, stays, allows}

pub loads_epoch : (plan : Plan) (slots seat : ℕ) (me : Me (Unit {0}) View) → is_gone me.0.role ≡ false
    → Allows (λ s. IsLawfulBoard plan s.words s.views) slots seat me 16 (λ n. n) (λ found after. LoadsEpochOf me.0 found after.0)
loads_epoch plan slots seat me here =
    allows plan slots seat 16 me (λ n. n) (λ found after. LoadsEpochOf me.0 found after.0)
    (λ words views lawful at.
    let v = me.0 in
    let fits = lawful.seats seat v at in (
      LoadEpoch (epoch_in words),
      stays plan words views v 16 (LoadEpoch (epoch_in words)) lawful (omega arith) fits.respects
          (owns_epoch plan words v.role v.steps lawful.floors fits.owns),
      record {
        step = refl;
        later = subst (λ (p : Plan). known_epoch p.base v.steps ≤ epoch_in words) (sym (fits.planned here))
            (known_stands plan.base words v.steps lawful.begun fits.stand);
        clock = λ role. ap (λ (p : Plan). known_epoch p.base v.steps) (fits.planned here) ∙ sym (subst (λ r. KnowsOwn plan words r v.steps) role fits.owns);
        bound = lawful.ends;
        respects = fits.respects;
      },
    ))

pub loads_mark : (plan : Plan) (slots seat i : ℕ) (me : Me (Unit {0}) View)
    → Allows (λ s. IsLawfulBoard plan s.words s.views) slots seat me i (λ n. n) (λ found after. LoadsMarkOf i me.0 found after.0)
loads_mark plan slots seat i me =
    allows plan slots seat i me (λ n. n) (λ found after. LoadsMarkOf i me.0 found after.0)
    (λ words views lawful at.
    let v = me.0 in
    let fits = lawful.seats seat v at in
    let mark = slice_index words i in (
      LoadMark i mark,
      stays plan words views v i (LoadMark i mark) lawful (omega arith) fits.respects (owns_mark plan words v.role v.steps i mark fits.owns),
      refl,
    ))

pub loads_durable : (plan : Plan) (slots seat : ℕ) (me : Me (Unit {0}) View) → is_gone me.0.role ≡ false
    → Allows (λ s. IsLawfulBoard plan s.words s.views) slots seat me 18 (λ n. n) (λ found after. (after.1 ≡ me.1) × LoadsDurableOf me.0 found after.0)
loads_durable plan slots seat me here =
    allows plan slots seat 18 me (λ n. n) (λ found after. (after.1 ≡ me.1) × LoadsDurableOf me.0 found after.0)
    (λ words views lawful at.
    let v = me.0 in
    let fits = lawful.seats seat v at in (
      LoadDurable (durable_in words),
      stays plan words views v 18 (LoadDurable (durable_in words)) lawful (omega arith) fits.respects
          (owns_durable plan words v.role v.steps (durable_in words) fits.owns),
      (
        refl,
        record {
          step = refl;
          later = subst (λ (p : Plan). seen_durable p.base v.steps ≤ durable_in words) (sym (fits.planned here))
              (durable_stands plan.base words v.steps lawful.lasting fits.stand);
          own = λ l role.
              let known : KnowsOwn plan words (Logger l) v.steps = subst (λ r. KnowsOwn plan words r v.steps) role fits.owns in
              let low = lawful.durable l known.0 in
              let mark = known.1 in
              subst (λ (p : Plan). durable_in words ≤ stored_mark p.base v.steps) (sym (fits.planned here)) (omega arith);
        },
      ),
    ))

rises_at : (words : List ℕ) (i n : ℕ) → i < length words → slice_index words i ≤ n → Rise words (set words i n)
rises_at words i n within more j =
    dite (ℕ_discrete j i)
    (λ same. subst (λ k. slice_index words k ≤ slice_index (set words i n) k) (sym same)
    (let here = get_or-set_same words i n 0 within in omega arith))
    (λ apart. let still = get_or-set_other words i j n 0 apart in omega arith)

-- what the roles other than that of number n know still, where all their words stand elsewhere
others_still : (plan : Plan) (words : List ℕ) (i n number : ℕ) → ((r : Role) → role_number r ≢ number → IsElsewhere plan i r)
    → (r : Role) (steps : List WordStep) → role_number r ≢ number → KnowsOwn plan words r steps → KnowsOwn plan (set words i n) r steps
others_still plan words i n number elsewhere r steps other h = owns_still plan words i n r steps (elsewhere r other) h

beside_epoch : (plan : Plan) → plan.loggers ≤ 8 → (r : Role) → role_number r ≢ 2 → IsElsewhere plan 16 r
beside_epoch plan few Terminal other = tt
beside_epoch plan few Gone other = tt
beside_epoch plan few Book other = ((λ e. omega arith), λ l low e. omega arith)
beside_epoch plan few Clock other = absurd (other refl)
beside_epoch plan few (Logger l) other = λ within e. omega arith

beside_count : (plan : Plan) → plan.loggers ≤ 8 → (r : Role) → role_number r ≢ 1 → IsElsewhere plan 17 r
beside_count plan few Terminal other = tt
beside_count plan few Gone other = tt
beside_count plan few Book other = absurd (other refl)
beside_count plan few Clock other = λ e. omega arith
beside_count plan few (Logger l) other = λ within e. omega arith

beside_floor : (plan : Plan) (logger : ℕ) → logger < 8 → plan.loggers ≤ 8 → (r : Role) → role_number r ≢ 1 → IsElsewhere plan (8 + logger) r
beside_floor plan logger low few Terminal other = tt
beside_floor plan logger low few Gone other = tt
beside_floor plan logger low few Book other = absurd (other refl)
beside_floor plan logger low few Clock other = λ e. omega arith
beside_floor plan logger low few (Logger l) other = λ within e. omega arith

beside_mark : (plan : Plan) (logger : ℕ) → logger < 8 → plan.loggers ≤ 8 → (r : Role) → role_number r ≢ logger + 3 → IsElsewhere plan logger r
beside_mark plan logger low few Terminal other = tt
beside_mark plan logger low few Gone other = tt
beside_mark plan logger low few Book other = ((λ e. omega arith), λ l small e. omega arith)
beside_mark plan logger low few Clock other = λ e. omega arith
beside_mark plan logger low few (Logger l) other = λ within e. other (ap (λ (n : ℕ). n + 3) e)

beside_durable : (plan : Plan) → plan.loggers ≤ 8 → (r : Role) → IsElsewhere plan 18 r
beside_durable plan few Terminal = tt
beside_durable plan few Gone = tt
beside_durable plan few Book = ((λ e. omega arith), λ l low e. omega arith)
beside_durable plan few Clock = λ e. omega arith
beside_durable plan few (Logger l) = λ within e. omega arith

-- E becomes n
epoch_moves : (plan : Plan) (words : List ℕ) (views : List View) (v : View) (n : ℕ) → IsLawfulBoard plan words views → v.role ≡ Clock
    → epoch_in words ≤ n → n ≤ 4294967295 → RespectsFloors v.steps
    → IsMove plan words (set words 16 n) v (AddEpoch n)
epoch_moves plan words views v n lawful role more ends respects =
    let size = lawful.size in
    let few = lawful.few in
    let here : epoch_in (set words 16 n) ≡ n = get_or-set_same words 16 n 0 (omega arith) in
    record {
      rise = rises_at words 16 n (omega arith) more;
      size = length-set words 16 n ∙ size;
      ends = omega arith;
      floors = λ l low. let still = get_or-set_other words 16 (8 + l) n 0 (λ e. omega arith) in let was = lawful.floors l low in omega arith;
      durable = λ l within.
          let d = get_or-set_other words 16 18 n 0 (λ e. omega arith) in
          let m = get_or-set_other words 16 l n 0 (λ e. omega arith) in
          let was = lawful.durable l within in omega arith;
      stands = omega arith;
      respects = respects;
      owns = subst (λ r. KnowsOwn plan (set words 16 n) r (AddEpoch n ∷ v.steps)) (sym role) here;
      others = others_still plan words 16 n (role_number v.role)
          (λ r other. beside_epoch plan few r (λ e. other (e ∙ sym (ap role_number role))));
    }

pub adds_epoch : (plan : Plan) (slots seat : ℕ) (me : Me (Unit {0}) View) → me.0.role ≡ Clock → known_epoch me.0.plan.base me.0.steps < 4294967295
    → Allows (λ s. IsLawfulBoard plan s.words s.views) slots seat me 16 (λ n. (n + 1) % 2 ^ 64) (λ found after. AddsEpochOf me.0 found after.0)
adds_epoch plan slots seat me role room =
    allows plan slots seat 16 me (λ n. (n + 1) % 2 ^ 64) (λ found after. AddsEpochOf me.0 found after.0)
    (λ words views lawful at.
    let v = me.0 in
    let fits = lawful.seats seat v at in
    let e = epoch_in words in
    let own : epoch_in words ≡ known_epoch plan.base v.steps = subst (λ r. KnowsOwn plan words r v.steps) role fits.owns in
    let known : known_epoch v.plan.base v.steps ≡ epoch_in words = ap (λ (p : Plan). known_epoch p.base v.steps) (fits.planned (ap is_gone role)) ∙ sym own in
    let whole : (e + 1) % 2 ^ 64 ≡ e + 1 = mod-eq_of_lt (omega arith) in (
      AddEpoch (e + 1),
      subst (λ n. IsMove plan words (set words 16 n) v (AddEpoch (e + 1))) (sym whole)
          (epoch_moves plan words views v (e + 1) lawful role (omega arith) (omega arith) fits.respects),
      record { step = refl; known = known },
    ))

count_moves : (plan : Plan) (words : List ℕ) (views : List View) (v : View) (epoch n : ℕ) → IsLawfulBoard plan words views → v.role ≡ Book
    → n ≡ length (counted_epochs v.steps) + 1 → epoch ≡ known_epoch plan.base v.steps → AllStand words v.steps → KnowsOwn plan words Book v.steps
    → RespectsFloors v.steps → IsMove plan words (set words 17 n) v (CountCommit epoch)
count_moves plan words views v epoch n lawful role next known stand own respects =
    let size = lawful.size in
    let few = lawful.few in
    let here : count_in (set words 17 n) ≡ n = get_or-set_same words 17 n 0 (omega arith) in
    let still : epoch_in (set words 17 n) ≡ epoch_in words = get_or-set_other words 17 16 n 0 (λ e. omega arith) in
    let low = known_stands plan.base words v.steps lawful.begun stand in
    let count = own.0 in
    record {
      rise = rises_at words 17 n (omega arith) (omega arith);
      size = length-set words 17 n ∙ size;
      ends = (let was = lawful.ends in omega arith);
      floors = λ l low. let f = get_or-set_other words 17 (8 + l) n 0 (λ e. omega arith) in let was = lawful.floors l low in omega arith;
      durable = λ l within.
          let d = get_or-set_other words 17 18 n 0 (λ e. omega arith) in
          let m = get_or-set_other words 17 l n 0 (λ e. omega arith) in
          let was = lawful.durable l within in omega arith;
      stands = omega arith;
      respects = (floors_up_to epoch words v.steps (λ l low. let f = own.1 l low in omega arith) stand, respects);
      owns = subst (λ r. KnowsOwn plan (set words 17 n) r (CountCommit epoch ∷ v.steps)) (sym role) (
        here ∙ (next ∙ add-one (length (counted_epochs v.steps))),
        λ l low. let f = get_or-set_other words 17 (8 + l) n 0 (λ e. omega arith) in let was = own.1 l low in omega arith,
      );
      others = others_still plan words 17 n (role_number v.role)
          (λ r other. beside_count plan few r (λ e. other (e ∙ sym (ap role_number role))));
    }

pub counts_commit : (plan : Plan) (slots seat : ℕ) (me : Me (Unit {0}) View) → me.0.role ≡ Book → length (counted_epochs me.0.steps) < 2 ^ 64 - 1
    → Allows (λ s. IsLawfulBoard plan s.words s.views) slots seat me 17 (λ n. (n + 1) % 2 ^ 64) (λ found after. CountsCommitOf me.0 after.0)
counts_commit plan slots seat me role room =
    allows plan slots seat 17 me (λ n. (n + 1) % 2 ^ 64) (λ found after. CountsCommitOf me.0 after.0)
    (λ words views lawful at.
    let v = me.0 in
    let fits = lawful.seats seat v at in
    let own : KnowsOwn plan words Book v.steps = subst (λ r. KnowsOwn plan words r v.steps) role fits.owns in
    let count : count_in words ≡ length (counted_epochs v.steps) = own.0 in
    let epoch = known_epoch v.plan.base v.steps in
    let known : known_epoch v.plan.base v.steps ≡ known_epoch plan.base v.steps = ap (λ (p : Plan). known_epoch p.base v.steps) (fits.planned (ap is_gone role)) in
    let whole : (count_in words + 1) % 2 ^ 64 ≡ count_in words + 1 = mod-eq_of_lt (omega arith) in (
      CountCommit epoch,
      subst (λ n. IsMove plan words (set words 17 n) v (CountCommit epoch)) (sym whole)
          (count_moves plan words views v epoch (count_in words + 1) lawful role (omega arith) known fits.stand own fits.respects),
      refl,
    ))

floor_moves : (plan : Plan) (words : List ℕ) (views : List View) (v : View) (logger epoch : ℕ) → IsLawfulBoard plan words views → v.role ≡ Book
    → logger < 8 → epoch ≡ known_epoch plan.base v.steps → AllStand words v.steps → KnowsOwn plan words Book v.steps
    → RespectsFloors v.steps → IsMove plan words (set words (8 + logger) epoch) v (StoreFloor logger epoch)
floor_moves plan words views v logger epoch lawful role within known stand own respects =
    let size = lawful.size in
    let few = lawful.few in
    let i = 8 + logger in
    let here : floor_in (set words (8 + logger) epoch) logger ≡ epoch = get_or-set_same words (8 + logger) epoch 0 (omega arith) in
    let still : epoch_in (set words (8 + logger) epoch) ≡ epoch_in words = get_or-set_other words (8 + logger) 16 epoch 0 (λ e. omega arith) in
    let count : count_in (set words (8 + logger) epoch) ≡ count_in words = get_or-set_other words (8 + logger) 17 epoch 0 (λ e. omega arith) in
    let low = known_stands plan.base words v.steps lawful.begun stand in
    let below = own.1 logger within in
    let floor_after : (bound : ℕ) → epoch ≤ bound → (l : ℕ) → floor_in words l ≤ bound → floor_in (set words (8 + logger) epoch) l ≤ bound
    = λ bound top l was. dite (ℕ_discrete l logger)
    (λ same. subst (λ k. floor_in (set words (8 + logger) epoch) k ≤ bound) (sym same) (omega arith))
    (λ apart. let f = get_or-set_other words (8 + logger) (8 + l) epoch 0 (λ e. apart (omega arith)) in omega arith) in
    record {
      rise = rises_at words (8 + logger) epoch (omega arith) (omega arith);
      size = length-set words (8 + logger) epoch ∙ size;
      ends = (let was = lawful.ends in omega arith);
      floors = λ l small. let f = floor_after (epoch_in words) (omega arith) l (lawful.floors l small) in omega arith;
      durable = λ l inside.
          let d = get_or-set_other words (8 + logger) 18 epoch 0 (λ e. omega arith) in
          let m = get_or-set_other words (8 + logger) l epoch 0 (λ e. omega arith) in
          let was = lawful.durable l inside in omega arith;
      stands = (within, omega arith);
      respects = respects;
      owns = subst (λ r. KnowsOwn plan (set words (8 + logger) epoch) r (StoreFloor logger epoch ∷ v.steps)) (sym role)
          (count ∙ own.0, λ l small. floor_after (known_epoch plan.base v.steps) (omega arith) l (own.1 l small));
      others = others_still plan words (8 + logger) epoch (role_number v.role)
          (λ r other. beside_floor plan logger within few r (λ e. other (e ∙ sym (ap role_number role))));
    }

pub stores_floor : (plan : Plan) (slots seat logger epoch : ℕ) (me : Me (Unit {0}) View) → me.0.role ≡ Book → logger < 8
    → epoch ≡ known_epoch me.0.plan.base me.0.steps
    → Allows (λ s. IsLawfulBoard plan s.words s.views) slots seat me (8 + logger) (λ _. epoch) (λ _ after. StoresFloorOf (8 + logger) me.0 epoch after.0)
stores_floor plan slots seat logger epoch me role within loaded =
    allows plan slots seat (8 + logger) me (λ _. epoch) (λ _ after. StoresFloorOf (8 + logger) me.0 epoch after.0)
    (λ words views lawful at.
    let v = me.0 in
    let fits = lawful.seats seat v at in
    let own : KnowsOwn plan words Book v.steps = subst (λ r. KnowsOwn plan words r v.steps) role fits.owns in
    let known : epoch ≡ known_epoch plan.base v.steps = loaded ∙ ap (λ (p : Plan). known_epoch p.base v.steps) (fits.planned (ap is_gone role)) in (
      StoreFloor logger epoch,
      floor_moves plan words views v logger epoch lawful role within known fits.stand own fits.respects,
      λ l is. ap (λ (k : ℕ). with_step v (StoreFloor k epoch)) (omega arith),
    ))

mark_moves : (plan : Plan) (words : List ℕ) (views : List View) (v : View) (logger mark : ℕ) → IsLawfulBoard plan words views → v.role ≡ Logger logger
    → logger < plan.loggers → mark_in words logger ≤ mark → RespectsFloors v.steps → IsMove plan words (set words logger mark) v (StoreMark logger mark)
mark_moves plan words views v logger mark lawful role within more respects =
    let size = lawful.size in
    let few = lawful.few in
    let here : mark_in (set words logger mark) logger ≡ mark = get_or-set_same words logger mark 0 (omega arith) in
    let still : epoch_in (set words logger mark) ≡ epoch_in words = get_or-set_other words logger 16 mark 0 (λ e. omega arith) in
    let d : durable_in (set words logger mark) ≡ durable_in words = get_or-set_other words logger 18 mark 0 (λ e. omega arith) in
    let rise = rises_at words logger mark (omega arith) more in
    record {
      rise = rise;
      size = length-set words logger mark ∙ size;
      ends = (let was = lawful.ends in omega arith);
      floors = λ l low. let f = get_or-set_other words logger (8 + l) mark 0 (λ e. omega arith) in let was = lawful.floors l low in omega arith;
      durable = λ l inside. let up = rise l in let was = lawful.durable l inside in omega arith;
      stands = omega arith;
      respects = respects;
      owns = subst (λ r. KnowsOwn plan (set words logger mark) r (StoreMark logger mark ∷ v.steps)) (sym role) (within, here);
      others = others_still plan words logger mark (role_number v.role)
          (λ r other. beside_mark plan logger (omega arith) few r (λ e. other (e ∙ sym (ap role_number role))));
    }

pub stores_mark : (plan : Plan) (slots seat logger mark : ℕ) (me : Me (Unit {0}) View) → me.0.role ≡ Logger logger
    → stored_mark me.0.plan.base me.0.steps ≤ mark
    → Allows (λ s. IsLawfulBoard plan s.words s.views) slots seat me logger (λ _. mark) (λ _ after. StoresMarkOf logger me.0 mark after.0)
stores_mark plan slots seat logger mark me role more =
    allows plan slots seat logger me (λ _. mark) (λ _ after. StoresMarkOf logger me.0 mark after.0)
    (λ words views lawful at.
    let v = me.0 in
    let fits = lawful.seats seat v at in
    let own : KnowsOwn plan words (Logger logger) v.steps = subst (λ r. KnowsOwn plan words r v.steps) role fits.owns in
    let known : stored_mark v.plan.base v.steps ≡ stored_mark plan.base v.steps = ap (λ (p : Plan). stored_mark p.base v.steps) (fits.planned (ap is_gone role)) in
    let was = own.1 in
    (StoreMark logger mark, mark_moves plan words views v logger mark lawful role own.0 (omega arith) fits.respects, refl))

durable_moves : (plan : Plan) (words : List ℕ) (views : List View) (v : View) (epoch : ℕ) → IsLawfulBoard plan words views
    → ((l : ℕ) → l < plan.loggers → epoch ≤ mark_in words l) → RespectsFloors v.steps → KnowsOwn plan words v.role v.steps
    → IsMove plan words (set words 18 (max (durable_in words) epoch)) v (RaiseDurable epoch)
durable_moves plan words views v epoch lawful marks respects own =
    let size = lawful.size in
    let few = lawful.few in
    let n = max (durable_in words) epoch in
    let here : durable_in (set words 18 n) ≡ max (durable_in words) epoch = get_or-set_same words 18 n 0 (omega arith) in
    let still : epoch_in (set words 18 n) ≡ epoch_in words = get_or-set_other words 18 16 n 0 (λ e. omega arith) in
    record {
      rise = rises_at words 18 n (omega arith) (omega arith);
      size = length-set words 18 n ∙ size;
      ends = (let was = lawful.ends in omega arith);
      floors = λ l low. let f = get_or-set_other words 18 (8 + l) n 0 (λ e. omega arith) in let was = lawful.floors l low in omega arith;
      durable = λ l inside.
          let m = get_or-set_other words 18 l n 0 (λ e. omega arith) in
          let was = lawful.durable l inside in let new = marks l inside in omega arith;
      stands = omega arith;
      respects = respects;
      owns = owns_raise plan (set words 18 n) v.role v.steps epoch (owns_still plan words 18 n v.role v.steps (beside_durable plan few v.role) own);
      others = λ r steps other h. owns_still plan words 18 n r steps (beside_durable plan few r) h;
    }

pub raises_durable : (plan : Plan) (slots seat epoch : ℕ) (me : Me (Unit {0}) View) → is_gone me.0.role ≡ false → IsUpToMarks me.0 epoch
    → Allows (λ s. IsLawfulBoard plan s.words s.views) slots seat me 18 (λ n. max n epoch) (λ _ after. RaisesDurableOf epoch me.0 after.0)
raises_durable plan slots seat epoch me here below =
    allows plan slots seat 18 me (λ n. max n epoch) (λ _ after. RaisesDurableOf epoch me.0 after.0)
    (λ words views lawful at.
    let v = me.0 in
    let fits = lawful.seats seat v at in (
      RaiseDurable epoch,
      durable_moves plan words views v epoch lawful
          (λ l within. below words fits.stand l (subst (λ (p : Plan). l < p.loggers) (sym (fits.planned here)) within)) fits.respects fits.owns,
      refl,
    ))
