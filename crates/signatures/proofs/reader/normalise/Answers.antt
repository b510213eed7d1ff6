use Rattle.std.proofs.Common.{◌≡◌, ◌∷◌, refl, sym, ◌∙◌, ap, arith}
use Rattle.std.proofs.lemmas.Result.{err_from_is_err_and}
use Rattle.basic_types.specs.Tokens.{word, tokens_of}
use Rattle.signatures.proofs.Reading.{typed_text, refused_types}
use Rattle.signatures.proofs.reader.normalise.Goals as goal

pub returns-in_err-types : goal.returns-in_err-types
returns-in_err-types c =
    let p = err_from_is_err_and c.from_residual.result c.from_residual.ensures.1 in
    let named = c.in-Some.ensures.found in
    let opened : tokens_of c.args.text.now ≡ word c.in-Some.name.now ∷ c.name.new.self = ap tokens_of (sym c.as_bytes.ensures.value) ∙ (sym c.new-scanner.ensures ∙ named.0) in
    rw (p.1, p.2) (refused_types c.args.text.now c.in-Some.name.now c.name.new.self c.eat.new.self opened c.if-not-eat.ensures.found named.1 (c.if-not-is_closed.ensures.0 refl) c.in_err-types.field-0.0 c.types.new.self c.in_err-types.ensures)

pub returns-then-len-gt-MOST_PARAMETERS : goal.returns-then-len-gt-MOST_PARAMETERS
returns-then-len-gt-MOST_PARAMETERS c =
    let named = c.in-Some.ensures.found in
    let opened : tokens_of c.args.text.now ≡ word c.in-Some.name.now ∷ c.name.new.self = ap tokens_of (sym c.as_bytes.ensures.value) ∙ (sym c.new-scanner.ensures ∙ named.0) in
    record {
      sig = record { name = c.in-Some.name.now; types = c.in_ok-types.types };
      typed = typed_text c.args.text.now c.in-Some.name.now c.name.new.self c.eat.new.self opened c.if-not-eat.ensures.found named.1 (c.if-not-is_closed.ensures.0 refl) c.in_ok-types.types c.types.new.self c.in_ok-types.ensures;
      many = omega arith;
    }

pub returns : goal.returns
returns c =
    let named = c.in-Some.ensures.found in
    let opened : tokens_of c.args.text.now ≡ word c.in-Some.name.now ∷ c.name.new.self = ap tokens_of (sym c.as_bytes.ensures.value) ∙ (sym c.new-scanner.ensures ∙ named.0) in
    rw (c.in_ok-sig.ensures, c.in_ok-name.ensures) (record {
      typed = typed_text c.args.text.now c.in-Some.name.now c.name.new.self c.eat.new.self opened c.if-not-eat.ensures.found named.1 (c.if-not-is_closed.ensures.0 refl) c.in_ok-types.types c.types.new.self c.in_ok-types.ensures;
      few = omega arith;
    })
