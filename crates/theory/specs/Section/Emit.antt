-- Laws of the clip by the table of 27 codes (scope's `emit`, `around` and `clip_by`), for bounds of any kind.
--     clip_by_each      what is put out is h or a bound
--     clip_by_map       the clip of renamed bounds is the renamed clip
--     Low, clip_by_low  a vertex not inside; where no vertex is inside, nothing is put out
--     quiet             the table puts out nothing for a vertex not inside before another
--     last_side, emit_high, emit_fall, emit_none   runs of vertices inside, and of vertices not inside
--     emit_app, around_turn   one entry more at the end; one entry from the head to the end
use Rattle.std.specs.Prelude.{◌≡◌, refl, List, [], ◌∷◌, ◌++◌, map}
use Rattle.std.proofs.Common.{sym, ap, ◌∙◌, append_assoc, append-nil}
use Rattle.whole.specs.Sign.{Sign, minus, nought, plus}
use Rattle.whole.specs.Lists.{Each, Each.none, Each.◌and◌, final, each_app, map_app, map_final, final_app, Rot, same, rot_app}
use Rattle.scope.specs.Section.{Signal, nothing, B, HB, table, first, put, emit, around, attach, clip_by}

-- ---- what is put out is h or a bound

module _ {A : Type 0} {Q : A → Type 0} where
  put_each : (s : Signal) (h b : A) → Q h → Q b → Each Q (put s h b)
  put_each nothing h b qh qb = none
  put_each B h b qh qb = qb and none
  put_each HB h b qh qb = qh and qb and none

  emit_each : (h : A) (q : Sign) (es : List (Sign × A)) (n : Sign) → Q h → Each (λ (e : Sign × A). Q e.1) es → Each Q (emit h q es n)
  emit_each h q [] n qh es = none
  emit_each h q (e ∷ es) n qh (qe and qs) = each_app (put_each (table q e.0 (first es n)) h e.1 qh qe) (emit_each h e.0 es n qh qs)

  attach_each : (side : A → A → Sign) (p : A) (bs : List A) → Each Q bs → Each (λ (e : Sign × A). Q e.1) (attach side p bs)
  attach_each side p [] qs = none
  attach_each side p (b ∷ bs) (q and qs) = q and attach_each side b bs qs

  pub clip_by_each : (side : A → A → Sign) (h : A) (bs : List A) → Q h → Each Q bs → Each Q (clip_by side h bs)
  clip_by_each side h [] qh qs = none
  clip_by_each side h (b ∷ bs) qh qs = let es = attach side b bs in
      emit_each h (final (side (final b bs) b, b) es).0 ((side (final b bs) b, b) ∷ es) (side (final b bs) b) qh (attach_each side (final b bs) (b ∷ bs) qs)

-- ---- renamed bounds

module _ {A A' : Type 0} (f : A → A') where
  abbrev both : Sign × A → Sign × A'
  both e = (e.0, f e.1)

  put_map : (s : Signal) (h b : A) → map f (put s h b) ≡ put s (f h) (f b)
  put_map nothing h b = refl
  put_map B h b = refl
  put_map HB h b = refl

  first_map : (es : List (Sign × A)) (n : Sign) → first (map both es) n ≡ first es n
  first_map [] n = refl
  first_map (e ∷ es) n = refl

  emit_map : (h : A) (q : Sign) (es : List (Sign × A)) (n : Sign) → map f (emit h q es n) ≡ emit (f h) q (map both es) n
  emit_map h q [] n = refl
  emit_map h q (e ∷ es) n = map_app f (put (table q e.0 (first es n)) h e.1) (emit h e.0 es n)
      ∙ rw (put_map (table q e.0 (first es n)) h e.1, emit_map h e.0 es n, first_map es n)

  around_map : (h : A) (es : List (Sign × A)) → map f (around h es) ≡ around (f h) (map both es)
  around_map h [] = refl
  around_map h (e ∷ es) = emit_map h (final e es).0 (e ∷ es) e.0 ∙ rw (map_final both e es)

  module _ (side : A → A → Sign) (side' : A' → A' → Sign) (ok : (a b : A) → side a b ≡ side' (f a) (f b)) where
    attach_map : (p : A) (bs : List A) → map both (attach side p bs) ≡ attach side' (f p) (map f bs)
    attach_map p [] = refl
    attach_map p (b ∷ bs) = cc (ok p b, attach_map b bs)

    pub clip_by_map : (h : A) (bs : List A) → map f (clip_by side h bs) ≡ clip_by side' (f h) (map f bs)
    clip_by_map h [] = refl
    clip_by_map h (b ∷ bs) = around_map h (attach side (final b bs) (b ∷ bs)) ∙ ap (λ (es : List (Sign × A')). around (f h) es) (attach_map (final b bs) (b ∷ bs))
        ∙ ap (λ (p : A'). around (f h) (attach side' p (map f (b ∷ bs)))) (sym (map_final f b bs))

-- ---- runs of one side

-- a vertex that is not inside: on h or behind it
pub data Low : Sign → Type 0 where
  low_0 : Low nought
  low_1 : Low minus

-- before a vertex that is not inside, one that is not inside puts out nothing; between two such and before one inside, h and its bound
pub quiet : (q : Sign) {s t : Sign} → Low s → Low t → table q s t ≡ nothing
quiet q low_0 low_0 = refl
quiet q low_0 low_1 = refl
quiet q low_1 low_0 = refl
quiet q low_1 low_1 = refl

rises : {q s : Sign} → Low q → Low s → table q s plus ≡ HB
rises low_0 low_0 = refl
rises low_0 low_1 = refl
rises low_1 low_0 = refl
rises low_1 low_1 = refl

module _ {A : Type 0} where
  -- the side of the last entry, q if there is none
  abbrev pub last_side : Sign → List (Sign × A) → Sign
  last_side q [] = q
  last_side q (e ∷ es) = last_side e.0 es

  pub last_side_final : (e : Sign × A) (es : List (Sign × A)) → last_side e.0 es ≡ (final e es).0
  last_side_final e [] = refl
  last_side_final e (x ∷ es) = last_side_final x es

module _ {A : Type 0} (h : A) where
  -- vertices inside put out their bounds
  pub emit_high : {xs : List (Sign × A)} → Each (λ (e : Sign × A). e.0 ≡ plus) xs → (q : Sign) (ys : List (Sign × A)) (n : Sign) → emit h q (xs ++ ys) n ≡ map (λ (e : Sign × A). e.1) xs ++ emit h (last_side q xs) ys n
  emit_high none q ys n = refl
  emit_high (◌and◌ {x = e} {xs = xs} p ps) q ys n = rw p (ap (λ (l : List A). e.1 ∷ l) (rw p at (emit_high ps e.0 ys n)))

  -- before a vertex inside, those not inside put out h and their last bound
  emit_low : {q : Sign} (e : Sign × A) (es : List (Sign × A)) → Low q → Each (λ (e : Sign × A). Low e.0) (e ∷ es) → emit h q (e ∷ es) plus ≡ h ∷ (final e es).1 ∷ []
  emit_low e [] lq (l and ls) = rw (rises lq l)
  emit_low {q} e (e' ∷ es) lq (l and l' and ls) = rw (quiet q l l') (emit_low {q = e.0} e' es l (l' and ls))

  pub emit_fall : (e e' : Sign × A) (es : List (Sign × A)) → Low e.0 → Each (λ (e : Sign × A). Low e.0) (e' ∷ es) → emit h plus (e ∷ e' ∷ es) plus ≡ h ∷ (final e' es).1 ∷ []
  emit_fall e e' es l (l' and ls) = rw (quiet plus l l') (emit_low e' es l (l' and ls))

  -- before a vertex not inside, those not inside put out nothing
  pub emit_none : (q : Sign) {n : Sign} (es : List (Sign × A)) → Low n → Each (λ (e : Sign × A). Low e.0) es → emit h q es n ≡ []
  emit_none q [] ln ls = refl
  emit_none q (e ∷ []) ln (l and ls) = rw (quiet q l ln)
  emit_none q (e ∷ e' ∷ es) ln (l and l' and ls) = rw (quiet q l l') (emit_none e.0 (e' ∷ es) ln (l' and ls))

  attach_low : {side : A → A → Sign} → ((p b : A) → Low (side p b)) → (p : A) (bs : List A) → Each (λ (e : Sign × A). Low e.0) (attach side p bs)
  attach_low f p [] = none
  attach_low f p (b ∷ bs) = f p b and attach_low f b bs

  pub clip_by_low : (side : A → A → Sign) → ((p b : A) → Low (side p b)) → (bs : List A) → clip_by side h bs ≡ []
  clip_by_low side f [] = refl
  clip_by_low side f (b ∷ bs) = let es = attach side b bs in
      emit_none (final (side (final b bs) b, b) es).0 ((side (final b bs) b, b) ∷ es) (f (final b bs) b) (attach_low f (final b bs) (b ∷ bs))

  -- ---- rotation

  first_app : (es : List (Sign × A)) (e : Sign × A) (n : Sign) → first (es ++ e ∷ []) n ≡ first es e.0
  first_app [] e n = refl
  first_app (x ∷ es) e n = refl

  pub emit_app : (q : Sign) (es : List (Sign × A)) (e : Sign × A) (n : Sign) → emit h q (es ++ e ∷ []) n ≡ emit h q es e.0 ++ put (table (last_side q es) e.0 n) h e.1
  emit_app q [] e n = append-nil (put (table q e.0 n) h e.1)
  emit_app q (x ∷ es) e n = rw (first_app es e n, emit_app x.0 es e n)
      (sym (append_assoc (put (table q x.0 (first es e.0)) h x.1) (emit h x.0 es e.0) (put (table (last_side x.0 es) e.0 n) h e.1)))

  -- one entry from the head to the end: what it puts out goes there too
  pub around_turn : (e : Sign × A) (es : List (Sign × A)) → Rot (around h (es ++ e ∷ [])) (around h (e ∷ es))
  around_turn e [] = same
  around_turn e (x ∷ es) = rw (final_app x es e [], emit_app e.0 (x ∷ es) e x.0, last_side_final x es)
      (rot_app (emit h e.0 (x ∷ es) e.0) (put (table (final x es).0 e.0 x.0) h e.1))
