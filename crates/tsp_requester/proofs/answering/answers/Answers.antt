use Rattle.std.proofs.Common.{refl, sym, inl, inr}
use Rattle.tsp_requester.specs.TokenParts.{token_value}
use Rattle.tsp_requester.specs.declared.rules.MatchFault.TheVariants as rule
use Rattle.tsp_requester.specs.Answering.{SameImprint, HasNonce, HasPolicy, HasWhatIsAsked, MatchFails}
use Rattle.tsp_requester.proofs.AnsweringLaw.{refused, fails_token, denied}
use Rattle.tsp_requester.proofs.answering.answers.Goals as goal

pub returns-in_default : goal.returns-in_default
returns-in_default c =
    let h : MatchFails c.args.request.now c.args.response.now rule.TokenMalformed =
    inr (
      c.in_ok-octets.ensures.token.granted,
      inr (c.in_ok-octets.octets.now, c.in_ok-octets.ensures.token.holds, inl (c.in_default.ensures.only refl, refl)),
    ) in
    record { answers = refused c.args.request.now c.args.response.now rule.TokenMalformed h; rule = h }

pub returns-then-not-has_imprint : goal.returns-then-not-has_imprint
returns-then-not-has_imprint c =
    let t = token_value c.in-Some.token in
    let h : MatchFails c.args.request.now c.args.response.now rule.Imprint =
    fails_token c.args.request.now c.args.response.now c.in_ok-octets.octets.now t rule.Imprint
    (c.in_ok-octets.ensures.token.granted) (sym c.in_ok-octets.ensures.token.holds) c.in-Some.ensures.found
    (inl (
      denied (SameImprint c.args.request.now.imprint t.stamp.imprint) c.has_imprint.result c.has_imprint.ensures
          c.if-not-has_imprint.true,
      refl,
    )) in
    record { answers = refused c.args.request.now c.args.response.now rule.Imprint h; rule = h }

pub returns-then-not-has_nonce : goal.returns-then-not-has_nonce
returns-then-not-has_nonce c =
    let t = token_value c.in-Some.token in
    let h : MatchFails c.args.request.now c.args.response.now rule.Nonce =
    fails_token c.args.request.now c.args.response.now c.in_ok-octets.octets.now t rule.Nonce
    (c.in_ok-octets.ensures.token.granted) (sym c.in_ok-octets.ensures.token.holds) c.in-Some.ensures.found
    (inr (
      c.has_imprint.ensures.0 c.if-not-has_imprint.false,
      inl (
        denied (HasNonce c.args.request.now t.stamp) c.has_nonce.result c.has_nonce.ensures c.if-not-has_nonce.true,
        refl,
      ),
    )) in
    record { answers = refused c.args.request.now c.args.response.now rule.Nonce h; rule = h }

pub returns-then-not-has_policy : goal.returns-then-not-has_policy
returns-then-not-has_policy c =
    let t = token_value c.in-Some.token in
    let h : MatchFails c.args.request.now c.args.response.now rule.Policy =
    fails_token c.args.request.now c.args.response.now c.in_ok-octets.octets.now t rule.Policy
    (c.in_ok-octets.ensures.token.granted) (sym c.in_ok-octets.ensures.token.holds) c.in-Some.ensures.found
    (inr (
      c.has_imprint.ensures.0 c.if-not-has_imprint.false,
      inr (
        c.has_nonce.ensures.0 c.if-not-has_nonce.false,
        inl (
          denied (HasPolicy c.args.request.now t.stamp) c.has_policy.result c.has_policy.ensures
              c.if-not-has_policy.true,
          refl,
        ),
      ),
    )) in
    record { answers = refused c.args.request.now c.args.response.now rule.Policy h; rule = h }

pub returns-then-not-has_what_is_asked : goal.returns-then-not-has_what_is_asked
returns-then-not-has_what_is_asked c =
    let t = token_value c.in-Some.token in
    let h : MatchFails c.args.request.now c.args.response.now rule.CertMissing =
    fails_token c.args.request.now c.args.response.now c.in_ok-octets.octets.now t rule.CertMissing
    (c.in_ok-octets.ensures.token.granted) (sym c.in_ok-octets.ensures.token.holds) c.in-Some.ensures.found
    (inr (
      c.has_imprint.ensures.0 c.if-not-has_imprint.false,
      inr (
        c.has_nonce.ensures.0 c.if-not-has_nonce.false,
        inr (
          c.has_policy.ensures.0 c.if-not-has_policy.false,
          inl (
            denied (HasWhatIsAsked c.args.request.now t) c.has_what_is_asked.result c.has_what_is_asked.ensures
                c.if-not-has_what_is_asked.true,
            refl,
          ),
        ),
      ),
    )) in
    record { answers = refused c.args.request.now c.args.response.now rule.CertMissing h; rule = h }
