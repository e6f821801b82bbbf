-- What a `RawBox` owns, beside the machine values that stand for it. Assumes `Logic`.
--     two            the machine value of a struct with two fields
--     fits_two       it has its type, if the handle fits
--     opened         a `RawBox` is [the box; the handle], at a pointer that isn't null
--     closed         the same back
--     pair_opened    the pair that `Box::into_raw_with_allocator` returns is [the pointer's word; the handle]
use Rattle.std.proofs.Common.{◌≡◌, ℕ, List, [], ◌∷◌, ◌++◌, refl, ap, ◌∙◌}
use mathlib.Core.Bool.{true, ◌&&◌}
use lib.Dec.{T}
use seplogic.Ra.Ura.{Ura}
use mir.Syntax.{impl, tnil, dnil}
use mir.Raw.{raw as plain_layout}
use mir.Val.{Val, vptr, vstruct, vcons, vnil, of_list, has_ty, WT}
use base.Logic.{never, fst∗}
use types.Logic.{Logic, sem}
use types.Kit.{Item, Goal, Seq, Step, step, ‵, ◌$◌, move, drop, fsplit, fjoin, fpick, fpack, feq_i, feq_l}
use denote.RattleType.{RattleType, Valss}
use denote.Builtin.{RawPtr}
use denote.Memory.{lone}
use denote.RawPtr.{Ptr, block_ptr, null_ptr, ptr_val, in_a_block}
use denote.Steps.{nothing}
use denote.Param.{layout}
use denote.Param.Laws.{Laws}
use denote.Struct.Struct.{within}
use denote.Struct.Owning.{shape}
use denote.Struct.Tuple.{Tuple}
use Rattle.core.specs.declared.alloc.Allocator.{Ghosts}
use Rattle.core.proofs.alloc.Calls.{Al, handle_tells}
use Rattle.core.proofs.cell.Inside.{Good}
use Rattle.std_alloc.specs.Box.Ownership.{box_owns}
use Rattle.std_alloc.proofs.ResultValues.{and_tt}
use Rattle.puffin_c.specs.contracts.raw_box.RawBox as raw_box

-- a struct of two fields
abbrev pub two : Val → Val → Val
two first second = vstruct (vcons first (vcons second vnil))

-- one machine value and then another, as the list of a struct's fields
two_is : {vs ps hs : List Val} {p h : Val} → vs ≡ vstruct (of_list (ps ++ (hs ++ []))) ∷ [] →
    ps ≡ p ∷ [] → hs ≡ h ∷ [] → vs ≡ two p h ∷ []
two_is whole first second = whole ∙ (λ i. vstruct (of_list (first i ++ (second i ++ []))) ∷ [])

module _ (R Z : RattleType) (L : Laws Z) (g : Ghosts Z.Denot) where
  abbrev pub Raw : RattleType
  Raw = raw_box.the_row R Z g

  abbrev pub heap : Al
  heap = record { row = Z; laws = L; g = g; d = impl [] tnil dnil; drops = impl [] tnil dnil }

  pub fits_two : (b o : ℕ) (h : Val) → Good (layout Z) h → T (has_ty (layout Z) h && true) × WT (two (vptr b o) h)
  fits_two b o h fits = (and_tt (has_ty (layout Z) h) fits.0, (tt, (fits.1, tt)))

  module _ {M : Type 1} {𝓤 : Ura M} {𝓛 : Logic 𝓤} {K : Type 0} {Γ : List (Item 𝓤)} {G : Goal 𝓤 𝓛.H} where
    pub opened : K → (raw : Raw.Denot) (vs : List Val)
        → ((b o : ℕ) (h : Val) → vs ≡ two (vptr b o) h ∷ [] → Good (layout Z) h →
        Seq K 𝓛 (‵ (box_owns (g.dealloc_token raw.heap) R (block_ptr b o) raw.value) ∷ ‵ (Z.own_val raw.heap (h ∷ [])) ∷ Γ) G)
        → Seq K 𝓛 (‵ (Raw.own_val raw vs) ∷ Γ) G
    opened t raw vs next =
        fsplit t $ fpick t (λ parts. fsplit t $ feq_l t (λ whole. fsplit t $ feq_l t (λ pointer. fsplit t $
        handle_tells heap t raw.heap parts.1.0 (λ h is fits. move t (1 ∷ []) $ drop t $ move t (1 ∷ []) $
        in_a_block t raw.at (λ p. box_owns (g.dealloc_token raw.heap) R p raw.value)
        (fst∗ 𝓤 (never 𝓤) (sem 𝓛 (g.dealloc_token raw.heap (plain_layout (lone R.mir)) null_ptr)))
        (λ b o at. next b o h (two_is whole (pointer ∙ ap (λ (p : Ptr). ptr_val p ∷ []) at) is) fits)))))

    pub closed : K → (b o : ℕ) (h : Val) (a : Z.Denot) (x : R.Denot)
        → Step K 𝓛 (‵ (Raw.own_val (record { at = block_ptr b o; heap = a; value = x }) (two (vptr b o) h ∷ [])) ∷ Γ) G
        (‵ (box_owns (g.dealloc_token a) R (block_ptr b o) x) ∷ ‵ (Z.own_val a (h ∷ [])) ∷ Γ) G
    closed t b o h a x = step (λ next. let word : List Val = two (vptr b o) h ∷ [] in
        nothing t $ move t (2 ∷ 0 ∷ []) $ fjoin t $ feq_i t (List Val) (vptr b o ∷ []) (vptr b o ∷ []) refl $ fjoin t $
        feq_i t (List Val) word word refl $ fjoin t $
        fpack t (Valss (RawPtr ∷ Z ∷ [])) (within (shape (raw_box.the_type R Z g)) (block_ptr b o, (a, tt)) word)
        (vptr b o ∷ [], (h ∷ [], tt)) $ fjoin t $ next)

    pub pair_opened : K → (at : Ptr) (a : Z.Denot) (vs : List Val)
        → ((h : Val) → vs ≡ two (ptr_val at) h ∷ [] → Good (layout Z) h → Seq K 𝓛 (‵ (Z.own_val a (h ∷ [])) ∷ Γ) G)
        → Seq K 𝓛 (‵ ((Tuple (RawPtr ∷ Z ∷ [])).own_val (at, a) vs) ∷ Γ) G
    pair_opened t at a vs next =
        fpick t (λ parts. fsplit t $ feq_l t (λ whole. fsplit t $ feq_l t (λ pointer. fsplit t $
        handle_tells heap t a parts.1.0 (λ h is fits. move t (1 ∷ []) $ drop t $ next h (two_is whole pointer is) fits))))
