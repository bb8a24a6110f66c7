-- `segments::kinds::kind_of`: at each code Table A.2 computes, and past all of them nothing is left. Assumes nothing.
use mathlib.Core.Path.{sym}
use borrow.Author.Tests.{ne_eqb}
use Rattle.segments.specs.Segments.{kind_of}
use Rattle.segments.proofs.kinds.kind_of.Goals as goal

pub returns-in-65299 : goal.returns-in-65299
unfolding kind_of
returns-in-65299 c =
    λ i. kind_of (sym c.in-65299.is i)

pub returns-in-65300 : goal.returns-in-65300
unfolding kind_of
returns-in-65300 c =
    λ i. kind_of (sym c.in-65300.is i)

pub returns-in-65301 : goal.returns-in-65301
unfolding kind_of
returns-in-65301 c =
    λ i. kind_of (sym c.in-65301.is i)

pub returns-in-65302 : goal.returns-in-65302
unfolding kind_of
returns-in-65302 c =
    λ i. kind_of (sym c.in-65302.is i)

pub returns-in-65303 : goal.returns-in-65303
unfolding kind_of
returns-in-65303 c =
    λ i. kind_of (sym c.in-65303.is i)

pub returns-in-65304 : goal.returns-in-65304
unfolding kind_of
returns-in-65304 c =
    λ i. kind_of (sym c.in-65304.is i)

pub returns-in-65305 : goal.returns-in-65305
unfolding kind_of
returns-in-65305 c =
    λ i. kind_of (sym c.in-65305.is i)

pub returns-in-65306 : goal.returns-in-65306
unfolding kind_of
returns-in-65306 c =
    λ i. kind_of (sym c.in-65306.is i)

pub returns-in-65307 : goal.returns-in-65307
unfolding kind_of
returns-in-65307 c =
    λ i. kind_of (sym c.in-65307.is i)

pub returns-in-65312 : goal.returns-in-65312
unfolding kind_of
returns-in-65312 c =
    λ i. kind_of (sym c.in-65312.is i)

pub returns-in-65313 : goal.returns-in-65313
unfolding kind_of
returns-in-65313 c =
    λ i. kind_of (sym c.in-65313.is i)

pub returns-in_default : goal.returns-in_default
unfolding kind_of
returns-in_default c =
    let r = c.in_default.in_default-own.rest in
    simp (
      ne_eqb _ _ r.0.0.0.0.0.0.0.0.0.0.1,
      ne_eqb _ _ r.0.0.0.0.0.0.0.0.0.1,
      ne_eqb _ _ r.0.0.0.0.0.0.0.0.1,
      ne_eqb _ _ r.0.0.0.0.0.0.0.1,
      ne_eqb _ _ r.0.0.0.0.0.0.1,
      ne_eqb _ _ r.0.0.0.0.0.1,
      ne_eqb _ _ r.0.0.0.0.1,
      ne_eqb _ _ r.0.0.0.1,
      ne_eqb _ _ r.0.0.1,
      ne_eqb _ _ r.0.1,
      ne_eqb _ _ r.1,
    )
