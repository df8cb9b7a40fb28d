use Rattle.std.proofs.Common.{◌≡◌, ◌<◌, ◌^◌, ◌++◌, ◌∷◌, [], ◌∙◌, append_assoc, flat_map, length, arith, ap, rules, sym, subst, List, ℕ}
use Rattle.std.specs.List.{AllByRecursion}
use Rattle.frame_core.specs.declared.frame.Frame.{Frame}
use Rattle.frame_core.specs.Spelling.{Spells}
use Rattle.frame_core.specs.Verbs.{name_of}
use Rattle.frame_core.specs.Written.{written, written_header, IsText}
use Rattle.frame_core.proofs.OneAnswer.{read_first}
use Rattle.frame_core.proofs.Writing.{written_spells}
use Rattle.frame_core.proofs.write.write_frame.Goals as goal

-- the parts of a frame, one behind the other
parts : (f : Frame) (name body a b c d e g h : List ℕ) (headers : List (List ℕ × List ℕ)) → name ≡ name_of f.verb → headers ≡ f.headers → body ≡ f.body
    → a ≡ [] → b ≡ a ++ name → c ≡ b ++ 10 ∷ [] → d ≡ c ++ flat_map (written_header f.verb) headers → e ≡ d ++ 10 ∷ [] → g ≡ e ++ body → h ≡ g ++ 0 ∷ [] → h ≡ written f
parts f name body a b c d e g h headers name_is headers_are body_is p q r s t u v =
    rw (v, u, t, s, r, q, p, name_is, headers_are, body_is) (search (rules, append_assoc))

whole : (c : goal.In_ok-push-3) → c.push-3.new.self.items ≡ written c.args.frame.now
whole c =
    parts c.args.frame.now _ _ _ _ _ _ _ _ _ _ (c.as_bytes.ensures.value ∙ c.name.ensures) c.as_slice.ensures c.as_slice-2.ensures
    c.in_ok-bytes.ensures.items c.in_ok-extend_from_slice.ensures.items c.in_ok-push.ensures.items c.in_ok-write_headers.ensures.lines c.in_ok-push-2.ensures.items
    c.in_ok-extend_from_slice-2.ensures.items c.in_ok-push-3.ensures.items

spelled : (c : goal.In_ok-push-3) → Spells c.push-3.new.self.items c.args.frame.now
spelled c =
    let f = c.args.frame.now in
    let texts : AllByRecursion IsText f.headers = subst (AllByRecursion IsText) c.as_slice.ensures c.in_ok-write_headers.ensures.texts in
    let small : length f.body < 2 ^ 64 = omega (arith, c.in_ok-extend_from_slice-2.ensures.len, ap length c.as_slice-2.ensures) in
    let P : List ℕ → Type 0 = λ bytes. Spells bytes f in
    subst P (sym (whole c)) (written_spells f c.requires texts small)

pub returns-clause-bytes : goal.returns-clause-bytes
returns-clause-bytes c = whole c

pub returns-clause-spells : goal.returns-clause-spells
returns-clause-spells c = spelled c

pub returns-clause-again : goal.returns-clause-again
returns-clause-again c within = read_first c.push-3.new.self.items c.args.frame.now (spelled c) within
