-- The members of a message's elements, one after another.
use Rattle.std.proofs.Common.{◌≡◌, ℕ, ◌+◌, List, [], ◌∷◌, ◌++◌, Option, Some, None, refl, sym, ap}
use Rattle.std.proofs.Common.{append_assoc, append-nil, ◌∙◌, arith}
use Rattle.std.specs.Prelude.{flat_map}
use Rattle.std.specs.Fmt.{decimal}
use Rattle.std.proofs.lemmas.List.Concat.{flat_map-append}
use Rattle.iso_codec.specs.Message.{IsoMessage, IsMessage, content_of}
use Rattle.acq_show.proofs.ElementsInTurn.{all_below, below, element_of, none_below, one_more}
use Rattle.json.specs.Token.{Token, end_object, key, string}
use Rattle.json.specs.Tree.{members_tokens}
use Rattle.acq_json.specs.declared.card_form.CardForm.{CardForm}
use Rattle.acq_json.specs.Written.{characters, content_in, elements_json}

abbrev pub member_tokens : CardForm → ℕ × List ℕ → List Token
member_tokens form e =
    key (decimal e.0) ∷ string (characters (content_in form e.0 e.1)) ∷ []

-- the members of the elements below n
abbrev pub members_below : CardForm → ℕ → List (ℕ × List ℕ) → List Token
members_below form n es = flat_map (member_tokens form) (below n es)

pub members_begin : (form : CardForm) (m : IsoMessage) (front : List Token) → IsMessage m
    → front ≡ front ++ members_below form 2 m.elements
members_begin form m front is =
    rw (none_below 2 1 m.elements (omega arith) is.ascends) (sym (append-nil front))

-- the member of element n, if it is there, goes behind those before it
go_on : (form : CardForm) (m : IsoMessage) (n : ℕ) (old new front : List Token)
    (o : Option (List ℕ)) → IsMessage m → content_of m.elements n ≡ o
    → old ≡ front ++ members_below form n m.elements
    → new ≡ old ++ flat_map (member_tokens form) (element_of n o)
    → new ≡ front ++ members_below form (n + 1) m.elements
go_on form m n old new front o is here so now =
    let put = member_tokens form in
    let next : below (n + 1) m.elements ≡ below n m.elements ++ element_of n o =
    one_more n 1 m.elements is.ascends
    ∙ ap (λ (x : Option (List ℕ)). below n m.elements ++ element_of n x) here in
    let all : members_below form (n + 1) m.elements
    ≡ members_below form n m.elements ++ flat_map put (element_of n o) =
    ap (flat_map put) next ∙ flat_map-append put (below n m.elements) (element_of n o) in
    now ∙ ap (λ (x : List Token). x ++ flat_map put (element_of n o)) so
    ∙ append_assoc front (members_below form n m.elements) (flat_map put (element_of n o))
    ∙ ap (λ (x : List Token). front ++ x) (sym all)

pub members_more : (form : CardForm) (m : IsoMessage) (n : ℕ) (old new front : List Token)
    (content : List ℕ) → IsMessage m → Some content ≡ content_of m.elements n
    → old ≡ front ++ members_below form n m.elements
    → new ≡ old ++ member_tokens form (n, content)
    → new ≡ front ++ members_below form (n + 1) m.elements
members_more form m n old new front content is here so now =
    go_on form m n old new front (Some content) is (sym here) so now

pub members_same : (form : CardForm) (m : IsoMessage) (n : ℕ) (old front : List Token)
    → IsMessage m → None ≡ content_of m.elements n
    → old ≡ front ++ members_below form n m.elements
    → old ≡ front ++ members_below form (n + 1) m.elements
members_same form m n old front is here so =
    go_on form m n old old front None is (sym here) so (sym (append-nil old))

each_member : (form : CardForm) (es : List (ℕ × List ℕ))
    → flat_map (member_tokens form) es ++ end_object ∷ [] ≡ members_tokens (elements_json form es)
each_member form [] = refl
each_member form (e ∷ es) = ap (λ (x : List Token). member_tokens form e ++ x) (each_member form es)

pub members_end : (form : CardForm) (m : IsoMessage) (old new front : List Token) → IsMessage m
    → old ≡ front ++ members_below form 129 m.elements → new ≡ old ++ end_object ∷ []
    → new ≡ front ++ members_tokens (elements_json form m.elements)
members_end form m old new front is so now =
    now
    ∙ ap (λ (x : List Token). x ++ end_object ∷ [])
    (so ∙ ap (λ es. front ++ flat_map (member_tokens form) es) (all_below m.elements is.each))
    ∙ append_assoc front (flat_map (member_tokens form) m.elements) (end_object ∷ [])
    ∙ ap (λ (x : List Token). front ++ x) (each_member form m.elements)
