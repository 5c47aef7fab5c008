-- THE RULE ALONG A WALK: what is kept of the entries so far, and the pair in it. proofs/Walk.antt has the law that a walk over all of them comes to the rule.
-- Assumes nothing.
use Rattle.std.specs.Prelude.{Bool, true, false, cond, not, ◌&&◌, ◌||◌, List, [], ◌∷◌, eqb}
use Rattle.implied.specs.Rule.{Shown}
use Rattle.implied.specs.declared.Views.{Views}

abbrev pub no_views : Views
no_views = record { avc = false; mvc = false; spoiled = false }

-- one entry more: a view that is the second of its type, or has a hierarchy descriptor, spoils the pair
abbrev pub avc_next : Views → Bool → Views
avc_next v described = record { avc = true; mvc = v.mvc; spoiled = (v.spoiled || v.avc) || described }

abbrev pub mvc_next : Views → Bool → Views
mvc_next v described = record { avc = v.avc; mvc = true; spoiled = (v.spoiled || v.mvc) || described }

abbrev pub view_next : Views → Shown → Views
view_next v s = cond (eqb s.type 0x1B) (avc_next v s.described) (cond (eqb s.type 0x20) (mvc_next v s.described) v)

abbrev pub views_after : Views → List Shown → Views
views_after v [] = v
views_after v (s ∷ ss) = views_after (view_next v s) ss

abbrev pub is_pair : Views → Bool
is_pair v = v.avc && v.mvc && not v.spoiled
