-- Laws of fields, each once over the width, of packet headers, each once over their widths, and of streams that are the same in a part.
pub mod Laws
pub mod Headers
pub mod Groups
pub mod Alike
