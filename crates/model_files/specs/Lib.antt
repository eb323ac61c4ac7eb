-- model files: the encoding and the reading
pub mod Actions
pub mod ModelFile
pub mod Header
pub mod ReadModel
-- they agree
pub mod HeaderExact
pub mod Begun
pub mod BegunExact
pub mod StateHeader
pub mod ModelExact
pub mod Lengths
-- refusals
pub mod ModelDocument
pub mod OneMore
pub mod HeaderFaults
-- the model that a file describes
pub mod Described
pub mod DescribedLaws
pub mod Decoded
pub mod ModelSamples
pub mod FaultNumbers
