-- The seals of the lists go alike: a seal is made of nothing, or of what a box owned, and gives that back.
use mathlib.Core.Path.{◌≡◌, refl, sym, subst, ap, ◌∙◌}
use mathlib.Core.Bool.{true}
use mathlib.Core.List.{List, [], ◌∷◌, ◌++◌}
use lib.Dec.{lit<}
use seplogic.Ra.Ura.{Ura}
use mir.Syntax.{Sym, Ty, Fn, Callee, local, value_local, place, field, copy, int, assign, aggregate, rv_opd, seq}
use mir.Syntax.{return, ty_ptr, ty_struct, tnil, tcons, w64}
use mir.Raw.{raw as bare}
use mir.Val.{Val, vint, vptr, vstruct, vnil, vcons, of_list}
use base.Logic.{ent, emp, id⊢, never, fst∗}
use base.Fml.{Fml, ftrue, fsep}
use prog.Model.{Model}
use prog.Wp.{WpFn, Closed}
use types.Logic.{Logic, sem}
use contract.Monad.{fact}
use contract.Running.{Running, MachineTables, tables}
use types.Kit.{Item, ‵, raw, ◌⊛◌, ◌$◌, ◌∵◌, !, qed, by, move, drop, use1, join, split, rewrite, fsplit, fjoin, fpick}
use types.Kit.{fpack, feq_l, feq_i, suffices, done}
use types.Part.{whole, sub, agg}
use types.Run.{stop, fld, lit, no_more, and_then, of_opd, returns, enter}
use types.ByLocal.{alloc_all, pass_all, free_all, look_at, get, get_in, sets}
use denote.Exit.{Last, left, yes}
use denote.Memory.{lone}
use denote.RattleType.{RattleType, Valss}
use denote.RawPtr.{RawPtr, Ptr, block_ptr, null_ptr, ptr_val, in_a_block}
use denote.Signature.{Slot, plain}
use denote.Steps.{nothing, heard}
use denote.Param.Laws.{Laws}
use denote.Struct.Struct.{Shape, Struct, within}
use denote.Triple.Clauses.{Ended, Clauses, closing}
use denote.Triple.Spec.{Meets}
use denote.Triple.Walked.{says, Stays, stay_dropped, walk_of, ends_at, Goes-dropped}
use Rattle.core.proofs.alloc.Calls.{token, handle_tells}
use Rattle.std.proofs.raw_atomic.Walks.{proved_at}
use Rattle.std.specs.Prelude.{Option, Some, None, is_some}
use Rattle.std_alloc.specs.Box.Ownership.{box_owns}
use Rattle.std_alloc.proofs.BoxSteps.Form.{Bx, D, B, R as Boxed, τ, word, box_typed}
use Rattle.std_alloc.proofs.BoxSteps.Steps.{box_in, box_out}
use Rattle.std_heap.specs.contracts.Global as Heap
use Rattle.std_heap.specs.contracts.GlobalAllocator.TheImpl.{ghosts}
use Rattle.cmsproof_c.specs.Kept.{kept_owns}
use Rattle.cmsproof_c.specs.contracts.parts.Parts as Parts
use Rattle.cmsproof_c.proofs.AsBox.{boxed, FromParts, FromHeap}
use Rattle.cmsproof_c.proofs.Kept.{kept_is}

-- a struct whose only field is a pointer, as the machine has it
abbrev pub shaped : Sym → Shape
shaped name = record { name = name; args = []; types = []; fields = RawPtr ∷ [] }

-- a struct of that shape, which owns what is kept behind the pointer: its row, its values, and what they own
pub record Seal (R : RattleType) : Type 2 where
  pub name : Sym
  pub row : RattleType
  pub at : row.Denot → Ptr
  pub kept : row.Denot → Option R.Denot
  pub make : Ptr → Option R.Denot → row.Denot
  pub owns : (d : row.Denot) (vs : List Val)
      → row.own_val d vs ≡ fsep ((Struct (shaped name)).own_val (at d, tt) vs) (kept_owns R (at d) (kept d))
  pub owns_made : (p : Ptr) (k : Option R.Denot) (vs : List Val)
      → row.own_val (make p k) vs ≡ fsep ((Struct (shaped name)).own_val (p, tt) vs) (kept_owns R p k)
  pub kept_made : (p : Ptr) (k : Option R.Denot) → kept (make p k) ≡ k
  pub last : (d : row.Denot) → Last (row.exit yes) d
  pub silent : (d : row.Denot) (f : Last (row.exit yes) d) → left (row.exit yes) d f ≡ ftrue

-- a row of one machine type, as that of any struct is
abbrev pub single : RattleType → RattleType
single row = record row { mir = lone row.mir ∷ [] }

module _ (row : RattleType) (laws : Laws (single row)) (S : Seal (single row)) where
  abbrev R : RattleType
  R = single row

  abbrev E : Bx
  E = boxed R laws

  abbrev From : Slot 0
  From = FromParts R

  abbrev Sealed : Slot 0
  Sealed = plain (λ _. S.row)

  abbrev seal_ty : Ty
  seal_ty = ty_struct S.name (tcons ty_ptr tnil)

  abbrev parts_ty : Ty
  parts_ty = lone (Parts.the_row R Heap.the_row ghosts).mir

  abbrev empty_ended : Ended
  empty_ended = record { signature = record { lifetimes = 0; outlives = []; params = []; result = Sealed }; kept = tt }

  abbrev empty_fn : Fn
  empty_fn = record {
    lifetimes = 0;
    outlives = [];
    ty_params = [];
    givens = 0;
    params = 0;
    locals = local seal_ty value_local ∷ [];
    body = seq (assign (place 0 []) (aggregate (int w64 0 ∷ []))) return;
  }

  abbrev of_ended : Ended
  of_ended = record {
    signature = record { lifetimes = 0; outlives = []; params = From ∷ []; result = Sealed };
    kept = (yes, tt);
  }

  abbrev of_fn : Fn
  of_fn = record {
    lifetimes = 0;
    outlives = [];
    ty_params = [];
    givens = 0;
    params = 1;
    locals = local seal_ty value_local ∷ local parts_ty value_local ∷ local ty_ptr value_local ∷ local ty_ptr
        value_local ∷ [];
    body = seq (assign (place 2 []) (rv_opd (copy (place 1 (field 0 ∷ [])))))
        (seq (assign (place 3 []) (rv_opd (copy (place 2 []))))
        (seq (assign (place 0 []) (aggregate (copy (place 3 []) ∷ []))) return));
  }

  abbrev into_ended : Ended
  into_ended = record {
    signature = record { lifetimes = 0; outlives = []; params = Sealed ∷ FromHeap ∷ []; result = From };
    kept = (yes, (yes, tt));
  }

  abbrev into_fn : Fn
  into_fn = record {
    lifetimes = 0;
    outlives = [];
    ty_params = [];
    givens = 0;
    params = 2;
    locals = local parts_ty value_local ∷ local seal_ty value_local ∷ local (lone Heap.the_row.mir) value_local ∷ local
        ty_ptr value_local ∷ local ty_ptr value_local ∷ [];
    body = seq (assign (place 3 []) (rv_opd (copy (place 1 (field 0 ∷ [])))))
        (seq (assign (place 4 []) (rv_opd (copy (place 3 []))))
        (seq (assign (place 0 []) (aggregate (copy (place 4 []) ∷ copy (place 2 []) ∷ []))) return));
  }

  abbrev of_stayed : Stays of_ended.signature.params of_ended.kept
  of_stayed = (stay_dropped From yes, tt)

  abbrev into_stayed : Stays into_ended.signature.params into_ended.kept
  into_stayed = (stay_dropped Sealed yes, (stay_dropped FromHeap yes, tt))

  module _ {M : Type 1} {𝓤 : Ura M} (𝓛 : Logic 𝓤) (𝓜 : Model 𝓤 𝓛.H) (𝓡 : Running 𝓤 𝓛.H 𝓜) where
    open 𝓛 use {H}

    abbrev 𝓣 : MachineTables 𝓤 H 𝓜
    𝓣 = tables 𝓤 H 𝓜 𝓡 𝓡.env

    -- ---- a seal that owns nothing

    abbrev empty_clauses : Clauses 𝓤 empty_ended
    empty_clauses κs a =
        record { ghost = Unit {0}; requires = λ g. emp 𝓤; ensures = λ g r e. fact 𝓤 (S.kept r ≡ None) }

    empty_walk : (z : (walk_of 𝓛 empty_ended tt empty_clauses).Ghost)
        → ent 𝓤 ((walk_of 𝓛 empty_ended tt empty_clauses).pre z)
        (WpFn 𝓤 H 𝓣.C 𝓣.Λ empty_fn [] ((walk_of 𝓛 empty_ended tt empty_clauses).post z))
    empty_walk z =
        let s : Val = vstruct (vcons (vint w64 0) vnil) in
        qed 𝓛 ((‵ ftrue ⊛ ‵ ftrue) ∷ raw (emp 𝓤) ∷ []) ∵ split ! $ drop ! $ drop ! $ drop ! $
        nothing ! $ nothing ! $ feq_i ! (List Val) (vint w64 0 ∷ []) (ptr_val null_ptr ∷ []) refl $ fjoin ! $ feq_i
        ! (List Val) (s ∷ []) (s ∷ []) refl $ fjoin ! $
        fpack ! (Valss (RawPtr ∷ [])) (within (shaped S.name) (null_ptr, tt) (s ∷ [])) (vint w64 0 ∷ [], tt)
        $ fjoin ! $
        use1 𝓛 (‵ (fsep ((Struct (shaped S.name)).own_val (null_ptr, tt) (s ∷ [])) (kept_owns R null_ptr None)))
        (id⊢ 𝓤 _) $ rewrite ! 0 (λ (F : Fml). ‵ F) (sym (S.owns_made null_ptr None (s ∷ []))) refl $
        enter ! 𝓣.C 𝓣.Λ empty_fn [] _ $ alloc_all ! (λ ls. pass_all ! refl tt $
        sets ! (agg ! (and_then ! (lit ! tt) (no_more !))) refl (tt, (record { fits = lit< tt }, tt)) $ returns
        ! (look_at ! 0 refl) $ free_all ! refl $
        suffices ! _ (ends_at 𝓛 empty_ended tt empty_clauses z s (S.make null_ptr None) tt tt) $ says
        ! (S.kept_made null_ptr None) $
        nothing ! $ join ! $ nothing ! $ join ! $ done !)

    pub empty_met : (k : Callee) → Closed 𝓤 H 𝓣.C 𝓣.Λ k empty_fn
        → Meets 𝓛 empty_ended.signature (𝓣.C k) (closing 𝓛 empty_ended empty_clauses)
    empty_met k closed =
        proved_at 𝓛 empty_ended tt empty_clauses 𝓜 𝓡 tt k empty_fn closed (λ y are. empty_walk y)

    -- ---- what the parts own goes with the field

    abbrev of_clauses : Clauses 𝓤 of_ended
    of_clauses κs a =
        record { ghost = Unit {0}; requires = λ g. emp 𝓤; ensures = λ g r e. fact 𝓤 (S.kept r ≡ Some a.0.value) }

    of_walk : (z : (walk_of 𝓛 of_ended of_stayed of_clauses).Ghost)
        → ent 𝓤 ((walk_of 𝓛 of_ended of_stayed of_clauses).pre z)
        (WpFn 𝓤 H 𝓣.C 𝓣.Λ of_fn (z.0.4.0 ++ []) ((walk_of 𝓛 of_ended of_stayed of_clauses).post z))
    of_walk z =
        let Post = (walk_of 𝓛 of_ended of_stayed of_clauses).post z in
        let v : D E = record { ptr = z.0.3.0.ptr; alloc = z.0.3.0.alloc; value = z.0.3.0.value } in
        qed 𝓛 ((‵ ftrue ⊛ ‵ (fsep ((B E).own_val v z.0.4.0) ftrue)) ∷ raw (emp 𝓤) ∷ []) ∵ split ! $ drop ! $ fsplit ! $
        box_out E ! v z.0.4.0 (λ b o hv e ws fa.
        let made : S.row.Denot = S.make (block_ptr b o) (Some v.value) in
        let w = word E hv b o in
        let s : Val = vstruct (vcons (vptr b o) vnil) in
        -- [the value; the token; the handle; true; ..]
        fjoin ! $ nothing ! $ feq_i ! (List Val) (vptr b o ∷ []) (vptr b o ∷ []) refl $ fjoin ! $ feq_i
        ! (List Val) (s ∷ []) (s ∷ []) refl $ fjoin ! $
        fpack ! (Valss (RawPtr ∷ [])) (within (shaped S.name) (block_ptr b o, tt) (s ∷ [])) (vptr b o ∷ [], tt)
        $ fjoin ! $
        use1 𝓛 (‵ (fsep ((Struct (shaped S.name)).own_val (block_ptr b o, tt) (s ∷ []))
        (kept_owns R (block_ptr b o) (Some v.value)))) (id⊢ 𝓤 _) $
        rewrite ! 0 (λ (F : Fml). ‵ F) (sym (S.owns_made (block_ptr b o) (Some v.value) (s ∷ []))) refl $
        move ! (1 ∷ 2 ∷ 3 ∷ []) $ drop ! $ drop ! $ drop ! $
        let Γ : List (Item 𝓤) = ‵ (S.row.own_val made (s ∷ [])) ∷ [] in
        by ! (subst (λ (us : List Val). ent 𝓤 (types.Kit.⋆ 𝓛 Γ) (WpFn 𝓤 H 𝓣.C 𝓣.Λ of_fn (us ++ []) Post)) (sym ws)
        (qed 𝓛 Γ ∵ enter ! 𝓣.C 𝓣.Λ of_fn (w ∷ []) _ $ alloc_all
        ! (λ ls. pass_all ! refl (box_typed E hv b o fa, tt) $
        sets ! (of_opd ! (get_in ! (fld ! refl (stop !)) (sub ! 0 refl (whole !)))) refl (tt, tt) $ sets
        ! (of_opd ! (get ! refl)) refl (tt, tt) $
        sets ! (agg ! (and_then ! (get ! refl) (no_more !))) refl (tt, (tt, tt)) $ returns ! (look_at ! 0 refl)
        $ free_all ! refl $
        suffices ! _ (ends_at 𝓛 of_ended of_stayed of_clauses z s made (tt, tt) (tt, tt)) $ says
        ! (S.kept_made (block_ptr b o) (Some v.value)) $
        nothing ! $ nothing ! $ fjoin ! $ join ! $ nothing ! $ join ! $ done !))))

    pub of_met : (k : Callee) → Closed 𝓤 H 𝓣.C 𝓣.Λ k of_fn
        → Meets 𝓛 of_ended.signature (𝓣.C k) (closing 𝓛 of_ended of_clauses)
    of_met k closed = proved_at 𝓛 of_ended of_stayed of_clauses 𝓜 𝓡 (Goes-dropped 𝓛 0 From yes (λ κs x f. refl), tt) k
        of_fn closed (λ y are. of_walk y)

    -- ---- and back

    abbrev into_clauses : Clauses 𝓤 into_ended
    into_clauses κs a = record {
      ghost = Unit {0};
      requires = λ g. fact 𝓤 (is_some (S.kept a.0) ≡ true);
      ensures = λ g r e. fact 𝓤 (Some r.value ≡ S.kept a.0);
    }

    into_walk : (z : (walk_of 𝓛 into_ended into_stayed into_clauses).Ghost)
        → ent 𝓤 ((walk_of 𝓛 into_ended into_stayed into_clauses).pre z)
        (WpFn 𝓤 H 𝓣.C 𝓣.Λ into_fn (z.0.4.0 ++ (z.0.4.1.0 ++ []))
        ((walk_of 𝓛 into_ended into_stayed into_clauses).post z))
    into_walk z =
        let Post = (walk_of 𝓛 into_ended into_stayed into_clauses).post z in
        let self = z.0.3.0 in
        let heap = z.0.3.1.0 in
        let To = Parts.the_row R Heap.the_row ghosts in
        qed 𝓛
        ((‵ ftrue ⊛ ‵ (fsep (S.row.own_val self z.0.4.0) (fsep (E.al.row.own_val heap z.0.4.1.0) ftrue)))
        ∷ raw (fact 𝓤 (is_some (S.kept self) ≡ true)) ∷ []) ∵
        split ! $ drop ! $ fsplit ! $ move ! (1 ∷ []) $ fsplit ! $ handle_tells E.al ! heap z.0.4.1.0 (λ hv eh fa.
        -- [the allocator; true; the seal; that it keeps something]
        move ! (3 ∷ []) $ heard ! _ (λ is. let x = (kept_is (S.kept self) is).0 in
        let e = (kept_is (S.kept self) is).1 in
        move ! (2 ∷ []) $ rewrite ! 0 (λ (F : Fml). ‵ F) (S.owns self z.0.4.0) refl $ fsplit ! $ fpick ! (λ vss.
        fsplit ! $ feq_l ! (λ ev. fsplit ! $ feq_l ! (λ ep. drop ! $
        rewrite ! 0 (λ (k : Option R.Denot). ‵ (kept_owns R (S.at self) k)) e refl $
        in_a_block ! (S.at self) (λ p. box_owns (token E.al heap) (Boxed E) p x)
        (fst∗ 𝓤 (never 𝓤) (sem 𝓛 (token E.al heap (bare (τ E)) null_ptr))) (λ b o eb. fsplit ! $
        let v : D E = record { ptr = block_ptr b o; alloc = heap; value = x } in
        let made : To.Denot = record { ptr = v.ptr; alloc = v.alloc; value = v.value } in
        let w = word E hv b o in
        let s : Val = vstruct (vcons (vptr b o) vnil) in
        let ws : z.0.4.0 ≡ s ∷ [] = ev ∙ (ap (λ (ps : List Val). vstruct (of_list (ps ++ [])) ∷ []) ep
        ∙ ap (λ (p : Ptr). vstruct (of_list (ptr_val p ∷ [])) ∷ []) eb) in
        box_in E ! v b o x refl refl $ use1 𝓛 (‵ (To.own_val made (w ∷ []))) (id⊢ 𝓤 _) $ move ! (1 ∷ []) $ drop ! $
        let Γ : List (Item 𝓤) = ‵ (To.own_val made (w ∷ [])) ∷ [] in
        by ! (subst (λ (us : List Val).
        ent 𝓤 (types.Kit.⋆ 𝓛 Γ) (WpFn 𝓤 H 𝓣.C 𝓣.Λ into_fn (us ++ (z.0.4.1.0 ++ [])) Post)) (sym ws)
        (subst (λ (us : List Val). ent 𝓤 (types.Kit.⋆ 𝓛 Γ) (WpFn 𝓤 H 𝓣.C 𝓣.Λ into_fn (s ∷ (us ++ [])) Post))
        (sym eh)
        (qed 𝓛 Γ ∵ enter ! 𝓣.C 𝓣.Λ into_fn (s ∷ hv ∷ []) _ $ alloc_all
        ! (λ ls. pass_all ! refl ((tt, (tt, tt)), (fa, tt)) $
        sets ! (of_opd ! (get_in ! (fld ! refl (stop !)) (sub ! 0 refl (whole !)))) refl (tt, tt) $ sets
        ! (of_opd ! (get ! refl)) refl (tt, tt) $
        sets ! (agg ! (and_then ! (get ! refl) (and_then ! (get ! refl) (no_more !)))) refl (box_typed E hv b o fa)
        $ returns !
        (look_at ! 0 refl) $ free_all ! refl $
        suffices ! _ (ends_at 𝓛 into_ended into_stayed into_clauses z w made (S.last self, (tt, tt)) (tt, (tt, tt)))
        $ says ! (sym e) $
        nothing ! $ nothing ! $ fjoin ! $ nothing ! $ fjoin ! $ join ! $ nothing ! $ join ! $ done !))))))))))

    pub into_met : (k : Callee) → Closed 𝓤 H 𝓣.C 𝓣.Λ k into_fn
        → Meets 𝓛 into_ended.signature (𝓣.C k) (closing 𝓛 into_ended into_clauses)
    into_met k closed = proved_at 𝓛 into_ended into_stayed into_clauses 𝓜 𝓡
        (Goes-dropped 𝓛 0 Sealed yes (λ κs x f. S.silent x f), (Goes-dropped 𝓛 0 FromHeap yes (λ κs x f. refl), tt))
        k into_fn closed (λ y are. into_walk y)
