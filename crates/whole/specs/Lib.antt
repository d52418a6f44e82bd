-- Integers: as differences of natural numbers, their order for `omega`, and their two quotients
pub mod Integers
pub mod Order
pub mod Quotients
-- Solvers: identities, equations from equations, orders from certificates
pub mod Ring
pub mod Combine
pub mod Certificate
-- Fractions: what they are, how the solvers read them, their laws, and how near a whole number is to one
pub mod Fraction
pub mod Mirror
pub mod Fractions
pub mod Nearness
-- What code on signed widths asks
pub mod Signed
-- Each law at work
pub mod IntegersExamples
pub mod OrderExamples
pub mod QuotientsExamples
pub mod RingExamples
pub mod CombineExamples
pub mod CertificateExamples
pub mod FractionsExamples
pub mod NearnessExamples
pub mod SignedExamples
